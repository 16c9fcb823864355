use mathlib.Core.Path.{◌≡◌, refl}
use native.Mathlib.Numerals.{add-one}
use borrow.Author.Rules.{rules}
use mir.Syntax.{w16, w32}
use mir.Val.{to_z, of_z}
use Rattle.fixed.specs.Operators.{L_mac}
use Rattle.fixed.specs.Lists.{at, L_sum, dot}
use Rattle.fixed.proofs.Bounds.{got}
use Rattle.sums.proofs.dot40.Goals as goal

pub loop-i-init : goal.loop-i-init
unfolding dot L_sum
loop-i-init c = refl

pub loop-i-preserved : goal.loop-i-preserved
unfolding dot L_sum L_mac
loop-i-preserved c =
    let a : to_z w16 (of_z w16 (at c.args.x.now c.loop-i.i)) ≡ at c.args.x.now c.loop-i.i = search rules in
    let b : to_z w16 (of_z w16 (at c.args.y.now c.loop-i.i)) ≡ at c.args.y.now c.loop-i.i = search rules in
    rw (add-one c.loop-i.i, got w32 c.mac-sum.type_inv c.mac-sum.ensures, a, b, c.loop-i.invariant) refl
