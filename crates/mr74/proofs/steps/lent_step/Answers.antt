use mathlib.Core.Path.{◌≡◌, refl, sym, ◌∙◌}
use mathlib.Core.List.{List}
use Prim.Native.Nat.{ℕ}
use lib.IntN.{ℤ}
use lib.ListN.{length}
use Rattle.std.proofs.Common.{Option, Result, Ok, Err, rules}
use Rattle.refusal.specs.declared.Refusal.{Refusal}
use Rattle.refusal.specs.declared.Step.{Step as Answered}
use Rattle.refusal.specs.Refused.{number, detail, values, refused, told}
use Rattle.refusal.specs.Checks.{Check, checked}
use Rattle.pitch_state.specs.declared.PitchState.{PitchState}
use Rattle.pitch_state.specs.States.{searcher_of, reader_of}
use Rattle.feed.specs.Records.{header, body}
use Rattle.selection_answers.specs.declared.Answer.{Answer}
use Rattle.selection_answers.specs.Lines.{told_answer}
use Rattle.selection.specs.declared.ClosedLoop.{ClosedLoop}
use Rattle.selection.specs.Steps.{Step, selection_of, told_lent, step_lent}
use Rattle.mr74.specs.declared.steps.StepAnswer.{StepAnswer}
use Rattle.mr74.specs.Fields.{fields_of}
use Rattle.mr74.specs.Steps.{subframes_at, step_answer, StepInNumbers, stepped, of_step, step_in_numbers}
use Rattle.mr74.proofs.Checkings.{refused_by, accepted_by}
use Rattle.mr74.proofs.steps.lent_step.Goals as goal

-- an answered step, and the lists that go back, have the numbers of the step that it is
same_numbers : (searcher reader : PitchState) (r : Answered (Option Answer) ClosedLoop) (history words : List ℤ) (s : Step) → told_lent r history words ≡ s →
    {a : StepAnswer} {h w : List ℤ} → ((ws : List ℤ) → a ≡ stepped (told_answer r.answer ws) r.after.searcher r.after.reader searcher reader) → h ≡ history → w ≡ words →
    ◌≡◌ {A = StepInNumbers} (record { answer = a; history = h; words = w }) (of_step searcher reader s)
same_numbers searcher reader r history words s e f g h = rw (f words, g, h, ← e)

same_step : {h h' w w' : List ℤ} {e e' : ClosedLoop} (feed : List ℕ) (at : ℕ) → h ≡ h' → w ≡ w' → e ≡ e' →
    step_lent (selection_of h e.searcher e.reader) w feed at ≡ step_lent (selection_of h' e'.searcher e'.reader) w' feed at
same_step feed at a b c = rw (a, b, c)

module _ (feed : List ℕ) (at : ℕ) (searcher reader : PitchState) (history words : List ℤ) where
  abbrev subframes : List Check
  subframes = subframes_at (header feed at) (body feed at) searcher reader

  abbrev as_lent : ℕ → ℤ → StepInNumbers
  as_lent n d = record { answer = step_answer (fields_of (refused n d)) searcher reader; history = history; words = words }

  abbrev step : Step
  step = step_lent (selection_of history (searcher_of searcher) (reader_of reader)) words feed at

  -- two lists of the lengths that are needed: number 2 is left
  lengths_pass : length history ≡ 143 → length words ≡ 160 →
      step_in_numbers feed at searcher reader history words ≡ checked subframes as_lent (of_step searcher reader step)
  unfolding step_in_numbers
  lengths_pass h w = rw (h, w)

  module _ (h : length history ≡ 143) (w : length words ≡ 160) (r : Result (Unit {0}) Refusal) (e : told r ≡ checked subframes refused (values tt)) where
    refused_call : {f : Refusal} → r ≡ Err f → step_in_numbers feed at searcher reader history words ≡ as_lent (number f) (detail f)
    refused_call g = lengths_pass h w ∙ refused_by as_lent (of_step searcher reader step) subframes r e g

    taken_on : {u : Unit {0}} → r ≡ Ok u → step_in_numbers feed at searcher reader history words ≡ of_step searcher reader step
    taken_on g = lengths_pass h w ∙ accepted_by as_lent (of_step searcher reader step) subframes r e g

pub returns-in_err-known_at : goal.returns-in_err-known_at
returns-in_err-known_at c =
    let a = c.args in
    let h : length a.history_q0.now ≡ 143 = search rules in
    let w : length a.words.now ≡ 160 = search rules in
    let i : c.in_ok-history.history.now ≡ a.history_q0.now = search rules in
    let j : c.in_ok-lent.lent.now ≡ a.words.now = search rules in
    let t = refused_call a.feed.now a.at a.given.searcher a.given.reader a.history_q0.now a.words.now h w _ c.known_at.ensures (c.in_err-known_at.was {u = tt}) in
    let f : c.from_residual-in_err-known_at.result ≡ Err c.in_err-known_at.field-0.0 = search rules in
    rw (t, f, i, j)

pub returns : goal.returns
returns c =
    let a = c.args in
    let h : length a.history_q0.now ≡ 143 = search rules in
    let w : length a.words.now ≡ 160 = search rules in
    let i : c.in_ok-history.history.now ≡ a.history_q0.now = search rules in
    let j : c.in_ok-lent.lent.now ≡ a.words.now = search rules in
    let t = taken_on a.feed.now a.at a.given.searcher a.given.reader a.history_q0.now a.words.now h w _ c.known_at.ensures (c.in_ok-known_at.was {u = tt}) in
    let s = c.step_lent-step in
    let did = s.ensures ∙ same_step a.feed.now a.at i j c.from-ends.ensures in
    same_numbers a.given.searcher a.given.reader s.result s.new.history_q0 s.new.words _ did c.stepped.ensures refl refl ∙ sym t
