-- One step on a feed record, as it crosses to Rust and C.
use Rattle.std.specs.Prelude.{cond, ◌&&◌, ◌||◌, List, [], ◌∷◌, ℕ, eqb, ℤ, get_or}
use Rattle.refusal.specs.Refused.{Told, values, refused}
use Rattle.refusal.specs.Checks.{Check, checked, length_is}
use Rattle.lag_reader.specs.declared.Reader.{Reader}
use Rattle.pitch_search.specs.declared.Search.{Search}
use Rattle.pitch_state.specs.declared.PitchState.{PitchState}
use Rattle.pitch_state.specs.States.{searcher_numbers, reader_numbers, searcher_of, reader_of}
use Rattle.pitch_state.specs.Calls.{known_subframes}
use Rattle.feed.specs.Records.{Standing, nothing, whole, header, body}
use Rattle.selection_answers.specs.Lines.{Line}
use Rattle.selection.specs.Steps.{Step, selection_of, step_lent}
use Rattle.mr74.specs.declared.steps.StepAnswer.{StepAnswer}
use Rattle.mr74.specs.Fields.{Fields, fields_of}

-- an answer in numbers, with searcher and reader after it
abbrev pub step_answer : Fields → PitchState → PitchState → StepAnswer
step_answer f searcher reader =
    record {
      number = f.number;
      negative = f.negative;
      magnitude = f.magnitude;
      line = f.line;
      first = f.first;
      second = f.second;
      third = f.third;
      fourth = f.fourth;
      searcher_samples = searcher.samples;
      searcher_fraction = searcher.fraction;
      searcher_next = searcher.next;
      searcher_upper = searcher.upper;
      searcher_start = searcher.start;
      reader_samples = reader.samples;
      reader_fraction = reader.fraction;
      reader_next = reader.next;
      reader_upper = reader.upper;
      reader_start = reader.start;
    }

-- ---- searcher and reader in numbers
-- only a pitch record looks at the subframe that the searcher expects, only a lag reading at the reader's, both after their own number
abbrev pub subframes_of : ℕ → List ℕ → PitchState → PitchState → List Check
subframes_of kind bs searcher reader =
    cond (eqb kind 2) (known_subframes (get_or bs 0 0) searcher.next) (cond (eqb kind 6) (known_subframes (get_or bs 0 0) reader.next) [])

-- by what stands there
abbrev pub subframes_at : Told Standing → List ℕ → PitchState → PitchState → List Check
subframes_at (values nothing) bs searcher reader = []
subframes_at (values (whole kind next)) bs searcher reader = subframes_of kind bs searcher reader
subframes_at (refused n d) bs searcher reader = []

-- the numbers after an accepted reset, or an accepted record of the one kind that uses the state, are new; after any other they are those given
abbrev pub state_after : ℕ → Fields → PitchState → PitchState → PitchState
state_after kind f new given = cond (eqb f.number 0 && (eqb f.line 0 || eqb f.line kind)) new given

-- the answer, with searcher and reader so kept
abbrev pub stepped : Told Line → Search → Reader → PitchState → PitchState → StepAnswer
stepped a s r searcher reader =
    let f = fields_of a in
    step_answer f (state_after 2 f (searcher_numbers s) searcher) (state_after 6 f (reader_numbers r) reader)

-- a step that is answered, or the refusal of a check before it
abbrev pub told_step_answer : Told StepAnswer → PitchState → PitchState → StepAnswer
told_step_answer (values a) searcher reader = a
told_step_answer (refused n d) searcher reader = step_answer (fields_of (refused n d)) searcher reader

-- ---- the step: what is answered, and the two lent lists after it
pub record StepInNumbers : Type 0 where
  pub answer : StepAnswer
  pub history : List ℤ
  pub words : List ℤ

-- those of `step_lent`
abbrev pub of_step : PitchState → PitchState → Step → StepInNumbers
of_step searcher reader o =
    record {
      answer = stepped o.answer o.after.searcher o.after.reader searcher reader;
      history = o.after.detector.history_q0;
      words = o.words;
    }

-- `step_lent` behind numbers 1, of both lists, and 2; a refusal leaves the lists and the numbers as they were given
unfoldable pub step_in_numbers : List ℕ → ℕ → PitchState → PitchState → List ℤ → List ℤ → StepInNumbers
step_in_numbers feed at searcher reader history words =
    checked (length_is 143 history ∷ length_is 160 words ∷ subframes_at (header feed at) (body feed at) searcher reader)
    (λ n d. record { answer = step_answer (fields_of (refused n d)) searcher reader; history = history; words = words })
    (of_step searcher reader (step_lent (selection_of history (searcher_of searcher) (reader_of reader)) words feed at))
