use mathlib.Core.Path.{◌≡◌, sym, ◌∙◌}
use mathlib.Core.Bool.{true, false}
use Prim.Native.Nat.{suc, ◌+◌}
use native.Mathlib.Omega.{arith}
use borrow.Author.Rules.{rules}
use lib.Signed.{lt_z}
use mir.Syntax.{w32}
use mir.Val.{to_z, of_z}
use Rattle.fixed.specs.Lists.{at}
use Rattle.fixed.proofs.Choices.{best_more}
use Rattle.open_loop_sections.proofs.best_lag.Goals as goal
use Rattle.open_loop_sections.proofs.best_lag.Goals.{then-table-lag, else-table-lag}

pub loop-i-preserved : goal.loop-i-preserved
loop-i-preserved c =
    let ts = c.args.table.now in
    let low = c.args.low in
    let lag = c.loop-i.lag in
    let i = c.loop-i.i in
    let e = c.loop-i.invariant.1 in
    let k : low + i + 1 ≡ low + suc i = omega arith in
    let x : to_z w32 (of_z w32 (at ts lag)) ≡ at ts lag = search rules in
    let y : to_z w32 (of_z w32 (at ts (low + i + 1))) ≡ at ts (low + i + 1) = search rules in
    elim c.if-table-lag.branch [
      | then-table-lag w ↦
          let t = rw (x, y, e) at w.if-table-lag.true in
          (omega (arith, w.lag-is), w.lag-is ∙ sym (best_more lt_z (at ts) low i (low + i + 1) true k t))
      | else-table-lag w ↦
          let t = rw (x, y, e) at w.if-table-lag.false in
          (omega (arith, w.lag-is), w.lag-is ∙ e ∙ sym (best_more lt_z (at ts) low i (low + i + 1) false k t))
    ]
