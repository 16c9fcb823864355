use Rattle.std.proofs.Common.{◌≡◌, ◌+◌, ◌-◌, suc, ap, true, false, refl, sym, ◌∙◌, arith}
use mir.Syntax.{w16}
use mir.Val.{to_z, of_z}
use borrow.Author.Rules.{rules}
use Rattle.std.specs.Int.Signed.{lt_z}
use Rattle.fixed.specs.Lists.{best}
use Rattle.fixed.proofs.Choices.{best_more}
use Rattle.pitch_choice.specs.Choices.{step_value, best_step}
use Rattle.pitch_choice.proofs.best_step.Goals as goal
use Rattle.pitch_choice.proofs.best_step.Goals.{then-greatest-value, else-greatest-value}

pub loop-step-init : goal.loop-step-init
unfolding best_step best
loop-step-init c =
    let r : to_z w16 (of_z w16 c.step_value-greatest.result) ≡ c.step_value-greatest.result = search rules in
    (omega arith, refl, r ∙ c.step_value-greatest.ensures)

pub loop-step-preserved : goal.loop-step-preserved
unfolding best_step
loop-step-preserved c =
    let cs = c.args.correlation.now in
    let lag = c.args.lag in
    let step = c.loop-step.step in
    let i = step - 1 in
    let h = c.loop-step.invariant in
    let k : step ≡ 0 + suc i = omega arith in
    let e : step + 1 - 1 ≡ i + 1 = omega arith in
    let r : to_z w16 (of_z w16 c.step_value-value.result) ≡ c.step_value-value.result = search rules in
    let v = r ∙ c.step_value-value.ensures in
    elim c.if-greatest-value.branch [
      | then-greatest-value w ↦
          let t = rw (h.2, h.1, v) at w.if-greatest-value.true in
          (omega (arith, w.best-is), (rw e (w.best-is ∙ sym (best_more lt_z (step_value cs lag) 0 i step true k t))), w.greatest-is ∙ v ∙ ap (step_value cs lag) (sym w.best-is))
      | else-greatest-value w ↦
          let t = rw (h.2, h.1, v) at w.if-greatest-value.false in
          (omega (arith, w.best-is, h.0), (rw e (w.best-is ∙ h.1 ∙ sym (best_more lt_z (step_value cs lag) 0 i step false k t))), w.greatest-is ∙ h.2 ∙ ap (step_value cs lag) (sym w.best-is))
    ]
