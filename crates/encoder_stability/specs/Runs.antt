-- 02, request 04: what a watch holds after any calls since it was fresh, refused ones too. The calls stand with the latest first.
use Rattle.std.specs.Prelude.{◌≡◌, Bool, true, false, cond, ◌&&◌, List, [], ◌∷◌, ◌++◌, ℕ, zero, suc, eqb, ℤ, pos, length, reverse, replicate, take}
use Rattle.refusal.specs.Refused.{Told, values, refused}
use Rattle.encoder_stability.specs.declared.Stability.{Stability}
use Rattle.encoder_stability.specs.declared.WatchedGain.{WatchedGain}
use Rattle.encoder_stability.specs.Watch.{fresh_watch, close, observed, resonant, eighth, watched}

-- a spectrum, or a gain stage with its lists, its predicted pair and the pitch gain given
pub data Call : Type 0 where
  observe : List ℤ → Call
  stage : List ℤ → List ℤ → List ℤ → ℤ → ℕ → ℤ → Call

abbrev pub after_call : Stability → Call → Stability
after_call w (observe xs) = (observed w xs).after
after_call w (stage xs ys zs exponent fraction g) = (watched w xs ys zs exponent fraction g).after

abbrev pub after_calls : List Call → Stability
after_calls [] = fresh_watch
after_calls (c ∷ cs) = after_call (after_calls cs) c

-- ---- which of the accepted spectra had close values
abbrev pub closes : List Call → List Bool
closes [] = []
closes (observe xs ∷ cs) = cond (eqb (length xs) 10) (close xs ∷ closes cs) (closes cs)
closes (stage xs ys zs exponent fraction g ∷ cs) = closes cs

-- there are n, and the latest n are all so
abbrev pub latest : ℕ → List Bool → Bool
latest zero bs = true
latest (suc n) [] = false
latest (suc n) (b ∷ bs) = b && latest n bs

-- a spectrum is resonant exactly where the twelve latest accepted ones, itself among them, had close values
unfoldable pub TwelveInARow : Type 0
TwelveInARow = (cs : List Call) → resonant (after_calls cs).count ≡ latest 12 (closes cs)

-- ---- the pitch gains that entered
abbrev pub and_gain : Told WatchedGain → List ℤ → List ℤ
and_gain (values a) gs = eighth a.gain.row.pitch_q14 ∷ gs
and_gain (refused n d) gs = gs

abbrev pub gains_of : List Call → List ℤ
gains_of [] = []
gains_of (observe xs ∷ cs) = gains_of cs
gains_of (stage xs ys zs exponent fraction g ∷ cs) = and_gain (watched (after_calls cs) xs ys zs exponent fraction g).answer (gains_of cs)

-- the latest seven of them, and zeros where there are fewer; the watch has the oldest first
unfoldable pub SevenLatest : Type 0
SevenLatest = (cs : List Call) → (after_calls cs).gains_q11 ≡ reverse (take 7 (gains_of cs ++ replicate 7 (pos 0)))
