use mathlib.Core.Path.{◌≡◌, refl}
use native.Mathlib.Numerals.{add-one}
use borrow.Author.Rules.{rules}
use mir.Syntax.{w16, w32}
use mir.Val.{to_z, of_z}
use Rattle.fixed.specs.Lists.{at, L_sum}
use Rattle.fixed.proofs.Bounds.{got}
use Rattle.gain_choice.specs.Rows.{term}
use Rattle.gain_choice.proofs.distance.Goals as goal

pub loop-k-init : goal.loop-k-init
unfolding L_sum
loop-k-init c = refl

pub loop-k-preserved : goal.loop-k-preserved
unfolding L_sum term
loop-k-preserved c =
    let ws = c.args.weights.now in
    let ps = c.args.products.now in
    let k = c.loop-k.k in
    let w : to_z w32 (of_z w32 (at ws k)) ≡ at ws k = search rules in
    let p : to_z w16 (of_z w16 (at ps k)) ≡ at ps k = search rules in
    rw (got w32 c.term-sum.type_inv c.term-sum.ensures, w, p, c.loop-k.invariant, add-one k)
