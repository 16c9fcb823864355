use mathlib.Core.Path.{◌≡◌}
use native.Mathlib.Omega.{arith}
use lib.IntN.{◌*ℤ◌}
use mir.Syntax.{w16, w32}
use mir.Val.{to_z, of_z}
use borrow.Author.Rules.{rules}
use Rattle.fixed.specs.Lists.{at}
use Rattle.fixed.proofs.Bounds.{got}
use Rattle.synthesis_filter.proofs.Plainly.{weighed_le}
use Rattle.synthesis_filter.proofs.sum_at.Goals as goal

pub plain_sum-requires : goal.plain_sum-requires
plain_sum-requires c =
    let cs = c.args.coefficients.now in
    let ys = c.args.before.samples.now in
    let x : to_z w16 (of_z w16 (at cs 0)) ≡ at cs 0 = search rules in
    let e : to_z w32 (of_z w32 c.exact-first.result) ≡ to_z w16 (of_z w16 c.args.excitation) *ℤ at cs 0 = rw (got w32 c.exact-first.type_inv c.exact-first.ensures, x) in
    let n = rw e at c.unsigned_abs.ensures.value in
    let w = weighed_le cs ys c.args.before.place c.args.peak 10 c.args.before.inside.0 c.requires.1 in
    omega (arith, c.if-unsigned_abs-reach-gt-MOST_UNDOUBLED.false, n, rw (← c.requires.0) at w)
