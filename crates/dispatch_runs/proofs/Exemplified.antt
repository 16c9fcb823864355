-- The computed runs.
use mathlib.Core.Path.{refl}
use Rattle.dispatch.specs.Services.{waiting_from, next_of, serve_of, mark_of}
use Rattle.pitch_search.specs.Opens.{search_opens}
use Rattle.pitch_state.specs.Calls.{search_in_numbers}
use Rattle.dispatch_runs.specs.Runs.{run}
use Rattle.dispatch_runs.specs.Example.{entries, happens, waits_after, Example, entries_of_one, SameAnswers, NumbersExample}

pub example : Example
unfolding Example entries happens waits_after run waiting_from next_of serve_of mark_of search_opens
example = (refl, refl, refl, refl, refl, refl, refl, refl, refl, refl, refl, refl)

pub same_answers : SameAnswers
unfolding SameAnswers entries entries_of_one run waiting_from next_of serve_of mark_of search_opens
same_answers = (refl, refl, refl, refl)

pub numbers_example : NumbersExample
unfolding NumbersExample waiting_from next_of serve_of mark_of search_in_numbers
numbers_example = (refl, refl, refl, refl)
