use mathlib.Core.Path.{◌≡◌, refl, ◌∙◌}
use native.Mathlib.Omega.{arith}
use native.Mathlib.Numerals.{add-one}
use Prim.Native.Nat.{◌+◌}
use borrow.Author.Rules.{rules}
use mir.Syntax.{w16}
use mir.Val.{to_z, of_z}
use Rattle.fixed.specs.Lists.{at}
use Rattle.sums.specs.Plain.{squared}
use Rattle.sums.proofs.Halves.{in_two}
use Rattle.sums.proofs.squares40.Goals as goal

pub loop-i-init : goal.loop-i-init
unfolding squared
loop-i-init c = (refl, omega arith)

pub loop-i-preserved : goal.loop-i-preserved
unfolding squared
loop-i-preserved c =
    let x = c.args.x.now in
    let i = c.loop-i.i in
    let a : to_z w16 (of_z w16 (at x i)) ≡ at x i = search rules in
    let b : to_z w16 (of_z w16 (at x (20 + i))) ≡ at x (20 + i) = search rules in
    let p = c.square.ensures in
    let q = c.square-in-loop-i.ensures in
    (rw (add-one c.loop-i.i, p.0, q.0, a, b, c.loop-i.invariant.0) (omega arith), omega (arith, p.1, q.1))

pub returns : goal.returns
returns c =
    let e : c.loop-i.i ≡ 20 = omega arith in
    (rw e at c.loop-i.invariant.0) ∙ in_two (at c.args.x.now) 20 20
