use Rattle.std.proofs.Common.{sym, subst, ◌∙◌, replicate, arith, rules}
use Rattle.codebook_steps.specs.declared.Step.{Step}
use Rattle.codebook_steps.specs.Steps.{none_in}
use Rattle.codebook_choice.proofs.Starting.{Chosen, none_chosen, one_chosen, none_more, all_chosen}
use Rattle.codebook_choice.proofs.Lists.of_starts.Goals.{then-may_start, else-may_start}
use Rattle.codebook_choice.proofs.Lists.of_starts.Goals as goal

pub loop-n-init : goal.loop-n-init
loop-n-init g c f is =
    let a = c.args in
    subst (λ (x : Step). Chosen a.self.left.now a.a f (none_in a.track) 0 (replicate 8 x)) (sym c.none_in-steps.ensures) (none_chosen a.self.left.now a.a f (none_in a.track))

pub loop-n-preserved : goal.loop-n-preserved
loop-n-preserved g c f is =
    let a = c.args in
    let left = a.self.left.now in
    let none = none_in a.track in
    let n = c.loop-n.n in
    let held = c.loop-n.invariant f is in
    let t = rw c.place-first.ensures at c.may_start.ensures in
    elim c.if-may_start.branch [
      | then-may_start w ↦
          rw w.steps-is (one_chosen left a.a f none n c.loop-n.steps _ (omega arith) (sym t ∙ w.if-may_start.true) (is n _ (omega arith) (search rules)) held)
      | else-may_start w ↦ rw w.steps-is (none_more left a.a f none n c.loop-n.steps (omega arith) (sym t ∙ w.if-may_start.false) held)
    ]

pub returns : goal.returns
returns g c f is =
    let a = c.args in
    all_chosen a.self.left.now a.a f (none_in a.track) c.loop-n.n c.loop-n.steps (omega arith) (c.loop-n.invariant f is)
