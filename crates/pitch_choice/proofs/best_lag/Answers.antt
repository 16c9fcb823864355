use Rattle.std.proofs.Common.{◌≡◌, ◌+◌, suc, true, false, sym, ◌∙◌, arith}
use mir.Syntax.{w16}
use mir.Val.{to_z, of_z}
use borrow.Author.Rules.{rules}
use Rattle.std.specs.Int.Signed.{le_z}
use Rattle.fixed.specs.Lists.{at}
use Rattle.fixed.proofs.Choices.{best_more}
use Rattle.pitch_choice.specs.Choices.{best_lag}
use Rattle.pitch_choice.proofs.best_lag.Goals as goal
use Rattle.pitch_choice.proofs.best_lag.Goals.{then-correlation-next, else-correlation-next}

pub loop-i-preserved : goal.loop-i-preserved
unfolding best_lag
loop-i-preserved c =
    let cs = c.args.correlation.now in
    let start = c.args.window.start in
    let lag = c.loop-i.lag in
    let i = c.loop-i.i in
    let e = c.loop-i.invariant.1 in
    let k : start + i + 1 ≡ start + suc i = omega arith in
    let x : to_z w16 (of_z w16 (at cs lag)) ≡ at cs lag = search rules in
    let y : to_z w16 (of_z w16 (at cs (start + i + 1))) ≡ at cs (start + i + 1) = search rules in
    elim c.if-correlation-next.branch [
      | then-correlation-next w ↦
          let t = rw (x, y, e) at w.if-correlation-next.true in
          (omega (arith, w.lag-is), w.lag-is ∙ sym (best_more le_z (at cs) start i (start + i + 1) true k t))
      | else-correlation-next w ↦
          let t = rw (x, y, e) at w.if-correlation-next.false in
          (omega (arith, w.lag-is), w.lag-is ∙ e ∙ sym (best_more le_z (at cs) start i (start + i + 1) false k t))
    ]
