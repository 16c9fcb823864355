use mathlib.Core.Path.{◌≡◌, refl, ap}
use Prim.Native.Nat.{◌*◌}
use native.Mathlib.Omega.{arith}
use native.Mathlib.Numerals.{add-one}
use lib.IntN.{pos}
use borrow.Author.Rules.{rules}
use mir.Syntax.{w16, w32}
use mir.Val.{to_z, of_z}
use Rattle.fixed.specs.Operators.{L_mac}
use Rattle.fixed.specs.Lists.{at, L_sum, dot}
use Rattle.fixed.proofs.Bounds.{got}
use Rattle.sums.proofs.Sums.{square_more}
use Rattle.sums.proofs.energy_and_sum40.Goals as goal

pub loop-i-init : goal.loop-i-init
unfolding dot L_sum
loop-i-init c = (omega arith, (refl, refl))

pub loop-i-preserved : goal.loop-i-preserved
unfolding dot L_sum L_mac
loop-i-preserved c =
    let i = c.loop-i.i in
    let v = at c.args.x.now i in
    let a : to_z w16 (of_z w16 (at c.args.x.now i)) ≡ at c.args.x.now i = search rules in
    let b : to_z w16 (of_z w16 (at c.args.y.now i)) ≡ at c.args.y.now i = search rules in
    let e = c.square.ensures in (
      omega (arith, c.loop-i.invariant.0, e.1),
      (
        rw (add-one c.loop-i.i, e.0, a, ← c.loop-i.invariant.1.0, square_more (2 * c.loop-i.energy) v) (ap pos (omega arith)),
        rw (add-one c.loop-i.i, got w32 c.mac-sum.type_inv c.mac-sum.ensures, a, b, c.loop-i.invariant.1.1),
      ),
    )
