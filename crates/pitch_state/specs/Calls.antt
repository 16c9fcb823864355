-- Calls on a state in numbers, from 01, 'What is turned down, in checking order'.
use Rattle.std.specs.Prelude.{cond, List, [], ◌∷◌, ℕ, ℤ}
use Rattle.refusal.specs.Refused.{accepts}
use Rattle.refusal.specs.Checks.{Check, Outcome, unless_refused, length_is, known_subframe}
use Rattle.pitch.specs.declared.PitchLag.{PitchLag}
use Rattle.lag_reader.specs.Readers.{read}
use Rattle.pitch_search.specs.declared.SearchedPitch.{SearchedPitch}
use Rattle.pitch_search.specs.Searches.{Pitch_fr}
use Rattle.pitch_search.specs.Previews.{on_a_copy}
use Rattle.pitch_state.specs.declared.PitchState.{PitchState}
use Rattle.pitch_state.specs.States.{searcher_numbers, reader_numbers, searcher_of, reader_of}

-- number 2: the subframe number of a call, then the one that its state expects
abbrev pub known_subframes : ℕ → ℕ → List Check
known_subframes n next = known_subframe n ∷ known_subframe next ∷ []

-- what a stage answers and the numbers after it: where it refuses, those that were given
abbrev pub keeping : {A S N : Type 0} → N → (S → N) → Outcome A S → Outcome A N
keeping given numbers o = record { answer = o.answer; after = cond (accepts o.answer) (numbers o.after) given }

-- 01, numbers 1 and 2 of a search, that of the expected subframe last
abbrev pub call_checks : PitchState → List ℤ → List ℤ → List ℤ → ℕ → List Check
call_checks s exc target hs n = length_is 194 exc ∷ length_is 40 target ∷ length_is 40 hs ∷ known_subframes n s.next

-- `Search::search`
unfoldable pub search_in_numbers : PitchState → List ℤ → List ℤ → List ℤ → ℕ → ℕ → ℕ → Outcome SearchedPitch PitchState
search_in_numbers s exc target hs first second n =
    unless_refused (call_checks s exc target hs n) s
    (keeping s searcher_numbers (Pitch_fr (searcher_of s) exc target hs first second n))

-- `Search::preview`: the numbers that were given, whatever they are
unfoldable pub preview_in_numbers : PitchState → List ℤ → List ℤ → List ℤ → ℕ → ℕ → ℕ → Outcome SearchedPitch PitchState
preview_in_numbers s exc target hs first second n = on_a_copy s (search_in_numbers s exc target hs first second n)

-- `Reader::read`
unfoldable pub read_in_numbers : PitchState → ℕ → ℕ → Outcome PitchLag PitchState
read_in_numbers s n index =
    unless_refused (known_subframes n s.next) s (keeping s reader_numbers (read (reader_of s) n index))
