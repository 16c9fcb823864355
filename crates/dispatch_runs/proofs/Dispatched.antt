-- The statement, of both kinds of record.
use mathlib.Core.Path.{◌≡◌, refl, ◌∙◌}
use mathlib.Core.Bool.{Bool, true, false, cond, not}
use lib.Dec.{eqb}
use Rattle.refusal.specs.Refused.{accepts}
use Rattle.refusal.specs.Checks.{Outcome}
use Rattle.refusal.proofs.Checkings.{refused_kept}
use Rattle.pitch_search.specs.Inputs.{Input, searched}
use Rattle.pitch_search.proofs.Outcomes.{unchanged}
use Rattle.pitch_state.specs.declared.PitchState.{PitchState}
use Rattle.pitch_state.specs.States.{searcher_numbers, searcher_of}
use Rattle.pitch_state.specs.Calls.{keeping, call_checks, search_in_numbers}
use Rattle.dispatch.specs.declared.Channel.{Channel}
use Rattle.dispatch.specs.Services.{Kind, kind_of}
use Rattle.channel_state.specs.declared.ChannelState.{ChannelState}
use Rattle.channel_state.specs.Kinds.{searched_in_numbers}
use Rattle.dispatch_runs.specs.Statement.{SearcherKept, Dispatches, Dispatch}
use Rattle.dispatch_runs.proofs.Steps.{Lawful, told_is_served, nothing_changed}
use Rattle.dispatch_runs.proofs.Turns.{fair}
use Rattle.dispatch_runs.proofs.Alone.{isolated, as_alone}

module _ {R S X A : Type 0} (kind : Kind R X A) (searcher : R → S) (search : S → X → Outcome A S) (law : Lawful kind searcher search) where
  searcher_kept : SearcherKept kind searcher
  unfolding SearcherKept
  searcher_kept r x = (law.clears r x, λ e. law.leaves r x ∙ law.refused_keeps (searcher r) x (rw (← law.answers r x) e))

  pub dispatches : Dispatches kind searcher search
  dispatches =
      record {
        fair = fair kind law.mark_waits;
        isolated = isolated kind searcher search law;
        as_alone = as_alone kind searcher search law;
        told_is_served = told_is_served kind;
        nothing_changed = nothing_changed kind;
        searcher_kept = searcher_kept;
      }

-- a kind whose record, made of a searcher and a mark, is read as made
module _ {R S X A : Type 0} (searcher : R → S) (waits : R → Bool) (made : S → Bool → R) (search : S → X → Outcome A S)
    (same_searcher : (s : S) (t : Bool) → searcher (made s t) ≡ s) (same_mark : (s : S) (t : Bool) → waits (made s t) ≡ t)
    (kept : (s : S) (x : X) → accepts (search s x).answer ≡ false → (search s x).after ≡ s) where
  of_kind : Dispatches (kind_of searcher waits made search) searcher search
  of_kind =
      dispatches (kind_of searcher waits made search) searcher search
      (record {
        mark_waits = λ r. same_mark (searcher r) true;
        mark_keeps = λ r. same_searcher (searcher r) true;
        answers = λ r x. refl;
        leaves = λ r x. same_searcher (search (searcher r) x).after false;
        clears = λ r x. same_mark (search (searcher r) x).after false;
        refused_keeps = kept;
      })

numbers_kept : (s : PitchState) (x : Input) → accepts (searched_in_numbers s x).answer ≡ false → (searched_in_numbers s x).after ≡ s
unfolding search_in_numbers
numbers_kept s x e =
    let o = searched (searcher_of s) x in
    refused_kept s (keeping s searcher_numbers o) (call_checks s x.excitation x.target x.impulse x.subframe) (λ h. rw h) e

number_mark : (t : Bool) → not (eqb (cond t 1 0) 0) ≡ t
number_mark true = refl
number_mark false = refl

pub dispatch : Dispatch
unfolding Dispatch
dispatch = (
  of_kind (λ (c : Channel). c.searcher) _ _ searched (λ s t. refl) (λ s t. refl)
      (λ s x e. unchanged s x.excitation x.target x.impulse x.first x.second x.subframe e),
  of_kind (λ (c : ChannelState). c.searcher) _ _ searched_in_numbers (λ s t. refl) (λ s t. number_mark t) numbers_kept,
)
