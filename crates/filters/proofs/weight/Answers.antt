use mathlib.Core.Path.{◌≡◌}
use Prim.Native.Nat.{◌+◌}
use native.Mathlib.Numerals.{add-one}
use lib.IntN.{ℤ}
use mir.Syntax.{w16, w32}
use mir.Val.{to_z, of_z}
use Rattle.fixed.proofs.Bounds.{got}
use Rattle.fixed.specs.Lists.{at}
use Rattle.fixed.proofs.Lists.{filling_more, filling_all}
use Rattle.filters.specs.Filters.{weighted_at, Weight_Ai}
use borrow.Author.Rules.{rules}
use native.Mathlib.Omega.{arith}
use Rattle.filters.proofs.weight.Goals as goal

pub loop-i-init : goal.loop-i-init
unfolding weighted_at
loop-i-init c = search rules

pub loop-i-preserved : goal.loop-i-preserved
unfolding weighted_at
loop-i-preserved c =
    let i = c.loop-i.i in
    let cs = c.args.coefficients.now in
    let fs = c.args.factors.now in
    let v : ℤ = to_z w16 (of_z w16 c.rounded.result) in
    let x : to_z w16 (of_z w16 (at cs (i + 1))) ≡ at cs (i + 1) = search rules in
    let y : to_z w16 (of_z w16 (at fs i)) ≡ at fs i = search rules in
    let e : v ≡ weighted_at cs fs (i + 1) = rw (got w16 c.rounded.type_inv c.rounded.ensures, got w32 c.product.type_inv c.product.ensures, x, y, add-one i) in
    filling_more (weighted_at cs fs) 11 (i + 1) c.loop-i.weighted v (omega arith) e c.loop-i.invariant

pub returns : goal.returns
unfolding Weight_Ai
returns c = filling_all (weighted_at c.args.coefficients.now c.args.factors.now) 11 (c.loop-i.i + 1) c.loop-i.weighted (omega arith) c.loop-i.invariant
