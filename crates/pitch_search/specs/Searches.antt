-- TS 26.073 Pitch_fr as 01 has it: one search, what it answers and the searcher after it.
use Rattle.std.specs.Prelude.{List, [], ◌∷◌, ℕ, ℤ}
use Rattle.refusal.specs.Refused.{values}
use Rattle.refusal.specs.Checks.{Check, Outcome, unless_refused, length_is, known_subframe, open_loop_lag, in_order}
use Rattle.pitch.specs.declared.Subframe.TheVariants.{One}
use Rattle.pitch.specs.declared.PitchLag.{PitchLag}
use Rattle.pitch.specs.declared.UpperLag.{UpperLag}
use Rattle.pitch.specs.Kinds.{subframe_number, following, fresh_lag, upper_samples}
use Rattle.pitch.specs.Indexes.{index_of}
use Rattle.pitch_window.specs.Windows.{start_of, pitch_in}
use Rattle.pitch_search.specs.declared.SearchedPitch.{SearchedPitch}
use Rattle.pitch_search.specs.declared.Search.{Search}

-- 'Fresh searcher and fresh reader: previous lag 40, expecting 1'; 02: the start of its window is '0 when fresh or reset'
abbrev pub fresh_search : UpperLag → Search
fresh_search upper = record { previous = fresh_lag; next = One; upper = upper; start = 0 }

-- 02: 'a reset keeps which' upper lag it was made with
abbrev pub reset_search : Search → Search
reset_search s = fresh_search s.upper

-- what is answered and kept for a lag that is chosen in a window from start; 02 keeps that start too
abbrev pub found_at : Search → ℕ → PitchLag → Outcome SearchedPitch Search
found_at s start l =
    record {
      answer = values (record { lag = l; index = index_of s.next start l });
      after = record { previous = l; next = following s.next; upper = s.upper; start = start };
    }

-- a search that the checks let through
abbrev pub accepted : Search → List ℤ → List ℤ → List ℤ → ℕ → ℕ → Outcome SearchedPitch Search
accepted s exc target hs first second =
    let start = start_of (upper_samples s.upper) s.next s.previous.samples first second in
    found_at s start (pitch_in s.next start exc target hs)

-- 01, numbers 1 to 4 in checking order; 02: 'Number 3 covers 121 and above for the player'
abbrev pub search_checks : Search → List ℤ → List ℤ → List ℤ → ℕ → ℕ → ℕ → List Check
search_checks s exc target hs first second n =
    length_is 194 exc ∷ length_is 40 target ∷ length_is 40 hs ∷ known_subframe n
    ∷ open_loop_lag (upper_samples s.upper) first ∷ open_loop_lag (upper_samples s.upper) second ∷ in_order (subframe_number s.next) n ∷ []

-- Pitch_fr behind 01's checks: the answer, and the searcher after it
unfoldable pub Pitch_fr : Search → List ℤ → List ℤ → List ℤ → ℕ → ℕ → ℕ → Outcome SearchedPitch Search
Pitch_fr s exc target hs first second n =
    unless_refused (search_checks s exc target hs first second n) s (accepted s exc target hs first second)
