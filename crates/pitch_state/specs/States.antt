-- A searcher or a lag reader as numbers: the previous whole lag, its fraction in thirds, the subframe expected next, the upper lag, the start of its last window.
use Rattle.std.specs.Prelude.{cond, ℕ, zero, suc, eqb}
use Rattle.pitch.specs.declared.Fraction.TheVariants.{Zero}
use Rattle.pitch.specs.declared.Subframe.{Subframe}
use Rattle.pitch.specs.declared.Subframe.TheVariants.{One, Two, Three, Four}
use Rattle.pitch.specs.declared.PitchLag.{PitchLag}
use Rattle.pitch.specs.declared.UpperLag.{UpperLag}
use Rattle.pitch.specs.declared.UpperLag.TheVariants.{Player, Handset}
use Rattle.lag_reader.specs.declared.Reader.{Reader}
use Rattle.pitch.specs.Kinds.{thirds, subframe_number, upper_samples}
use Rattle.lag_reader.specs.Readers.{fresh_reader}
use Rattle.pitch_search.specs.declared.Search.{Search}
use Rattle.pitch_state.specs.declared.PitchState.{PitchState}

-- the numbers of a lag, of the subframe expected after it, of the upper lag and of the window's start
abbrev pub in_numbers : PitchLag → Subframe → UpperLag → ℕ → PitchState
in_numbers previous next upper start =
    record {
      samples = previous.samples;
      fraction = thirds previous.fraction;
      next = subframe_number next;
      upper = upper_samples upper;
      start = start;
    }

-- so of a searcher
abbrev pub searcher_numbers : Search → PitchState
searcher_numbers s = in_numbers s.previous s.next s.upper s.start

-- and of a reader
abbrev pub reader_numbers : Reader → PitchState
reader_numbers r = in_numbers r.previous r.next r.upper r.start

-- 01: 'Fresh searcher and fresh reader: previous lag 40, expecting 1', and start 0 (02)
abbrev pub fresh_state : UpperLag → PitchState
fresh_state upper = reader_numbers (fresh_reader upper)

-- the subframe of a number; numbers outside 1 to 4 are refused before anything uses it
abbrev pub subframe_of : ℕ → Subframe
subframe_of zero = Four
subframe_of (suc zero) = One
subframe_of (suc (suc zero)) = Two
subframe_of (suc (suc (suc zero))) = Three
subframe_of (suc (suc (suc (suc n)))) = Four

-- the upper lag of a number: 02, '120 or 143 only', so another number is taken as 143
abbrev pub upper_of : ℕ → UpperLag
upper_of n = cond (eqb n 120) Player Handset

-- the previous lag: no answer depends on its fraction, so any number is taken for one
abbrev pub previous_of : PitchState → PitchLag
previous_of s = record { samples = s.samples; fraction = Zero }

-- the searcher; no answer depends on the start either
abbrev pub searcher_of : PitchState → Search
searcher_of s = record { previous = previous_of s; next = subframe_of s.next; upper = upper_of s.upper; start = s.start }

-- and the reader
abbrev pub reader_of : PitchState → Reader
reader_of s = record { previous = previous_of s; next = subframe_of s.next; upper = upper_of s.upper; start = s.start }
