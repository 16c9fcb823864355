-- The detector: 143 old words, and what a half frame makes of them.
use Rattle.std.specs.Prelude.{cond, List, [], ◌∷◌, ℕ, ◌-◌, ltb, ℤ, pos, replicate}
use Rattle.fixed.specs.Lists.{at, tabulate, part}
use Rattle.refusal.specs.Refused.{values}
use Rattle.refusal.specs.Checks.{Outcome, unless_refused, length_is}
use Rattle.open_loop.specs.declared.Detector.{Detector}
use Rattle.open_loop_sections.specs.Sections.{lag_of}

-- fresh: all words 0
unfoldable pub fresh_detector : Detector
fresh_detector = record { history_q0 = replicate 143 (pos 0) }

-- 01: '143 old words and 80 new'
abbrev pub joined_at : List ℤ → List ℤ → ℕ → ℤ
joined_at old new k = cond (ltb k 143) (at old k) (at new (k - 143))

-- and so the 223
unfoldable pub joined : List ℤ → List ℤ → List ℤ
joined old new = tabulate (joined_at old new) 223

-- the lag, and the last 143 of the 223 words as they came in
abbrev pub accepted : Detector → List ℤ → Outcome ℕ Detector
accepted d new =
    let xs = joined d.history_q0 new in record { answer = values (lag_of xs); after = record { history_q0 = part xs 80 143 } }

-- Pitch_ol behind 01's check: the answer, and the detector after it
unfoldable pub Pitch_ol : Detector → List ℤ → Outcome ℕ Detector
Pitch_ol d new = unless_refused (length_is 80 new ∷ []) d (accepted d new)
