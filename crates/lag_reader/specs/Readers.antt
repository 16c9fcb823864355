-- The lag reader of 01.
use Rattle.std.specs.Prelude.{cond, ◌||◌, List, [], ◌∷◌, ℕ, leb, pos}
use Rattle.refusal.specs.Refused.{values}
use Rattle.refusal.specs.Checks.{Check, Outcome, unless_refused, known_subframe, in_order}
use Rattle.pitch.specs.declared.Subframe.{Subframe}
use Rattle.pitch.specs.declared.Subframe.TheVariants.{One}
use Rattle.pitch.specs.declared.PitchLag.{PitchLag}
use Rattle.pitch.specs.declared.UpperLag.{UpperLag}
use Rattle.lag_reader.specs.declared.Reader.{Reader}
use Rattle.pitch.specs.Kinds.{fresh_lag, subframe_number, absolute, following, upper_samples}
use Rattle.pitch.specs.Windows.{relative_start}
use Rattle.pitch.specs.Indexes.{lag_of}

-- 'Fresh searcher and fresh reader: previous lag 40, expecting 1'; 02: the start of its window is '0 when fresh or reset'
abbrev pub fresh_reader : UpperLag → Reader
fresh_reader upper = record { previous = fresh_lag; next = One; upper = upper; start = 0 }

-- 02: 'a reset keeps which' upper lag it was made with
abbrev pub reset_reader : Reader → Reader
reset_reader r = fresh_reader r.upper

-- 01, number 5: a relative index is at most 31
abbrev pub relative_index_fits : Subframe → ℕ → Check
relative_index_fits s index = record { passes = absolute s || leb index 31; number = 5; detail = pos index }

-- 02: 'The lag reader keeps the start it used in subframes two and four', and 0 after one and three, which use none
abbrev pub start_used : ℕ → Subframe → ℕ → ℕ
start_used upper s previous = cond (absolute s) 0 (relative_start upper previous)

-- a reading in subframe s that the checks let through: its lag, and the reader after it
abbrev pub read_in : Subframe → Reader → ℕ → Outcome PitchLag Reader
read_in s r index =
    let upper = upper_samples r.upper in
    let lag = lag_of upper s r.previous.samples index in
    record {
      answer = values lag;
      after = record { previous = lag; next = following s; upper = r.upper; start = start_used upper s r.previous.samples };
    }

-- 01, numbers 2, 4 and 5 in checking order
abbrev pub reading_checks : Reader → ℕ → ℕ → List Check
reading_checks r n index = known_subframe n ∷ in_order (subframe_number r.next) n ∷ relative_index_fits r.next index ∷ []

-- what a reading answers, and the reader after it
unfoldable pub read : Reader → ℕ → ℕ → Outcome PitchLag Reader
read r n index = unless_refused (reading_checks r n index) r (read_in r.next r index)
