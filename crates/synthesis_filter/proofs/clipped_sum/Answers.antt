use mathlib.Core.Path.{◌≡◌}
use Prim.Native.Nat.{◌-◌, ◌+◌}
use mir.Syntax.{w16, w32}
use mir.Val.{to_z, of_z}
use Rattle.fixed.proofs.Bounds.{got}
use Rattle.fixed.specs.Operators.{L_mult}
use Rattle.fixed.specs.Lists.{at}
use Rattle.synthesis_filter.specs.Synthesis.{less_past}
use Rattle.synthesis_filter.proofs.Samples.{less_more}
use borrow.Author.Rules.{rules}
use native.Mathlib.Omega.{arith}
use Rattle.synthesis_filter.proofs.clipped_sum.Goals as goal

pub loop-tap-init : goal.loop-tap-init
unfolding less_past
loop-tap-init c =
    let cs = c.args.coefficients.now in
    let x : to_z w16 (of_z w16 (at cs 0)) ≡ at cs 0 = search rules in
    rw (got w32 c.product-sum.type_inv c.product-sum.ensures, x)

pub loop-tap-preserved : goal.loop-tap-preserved
loop-tap-preserved c =
    let cs = c.args.coefficients.now in
    let ys = c.args.before.samples.now in
    let t = c.loop-tap.tap in
    let q : t - 1 + 1 ≡ t = omega arith in
    let n : t + 1 - 1 ≡ t = omega arith in
    let x : to_z w16 (of_z w16 (at cs t)) ≡ at cs t = search rules in
    let y : to_z w16 (of_z w16 (at ys (c.args.before.place - t))) ≡ at ys (c.args.before.place - t) = search rules in
    rw (got w32 c.msu-sum.type_inv c.msu-sum.ensures, x, y, c.loop-tap.invariant, n) (rw q at (less_more cs ys c.args.before.place (L_mult (to_z w16 (of_z w16 c.args.excitation)) (at cs 0)) (t - 1)))
