use mathlib.Core.Path.{◌≡◌, ◌∙◌}
use Prim.Native.Nat.{◌+◌, ◌-◌}
use native.Mathlib.Omega.{arith}
use native.Mathlib.Numerals.{add-one}
use borrow.Author.Rules.{rules}
use lib.IntN.{◌+ℤ◌}
use mir.Facts.{to_z-of_z}
use mir.Syntax.{w16, w32}
use mir.Val.{to_z, of_z}
use Rattle.fixed.specs.Lists.{at}
use Rattle.fixed.proofs.Bounds.{got}
use Rattle.sums.specs.Plain.{plain}
use Rattle.open_loop_correlation.proofs.Energies.{half, half_fits, whole_fits, whole_is}
use Rattle.open_loop_correlation.proofs.plain_at.Goals as goal
use Rattle.open_loop_correlation.proofs.plain_at.Goals.{After-exact-sum, After-loop-i}

-- the sum with the product that is taken in
more : (c : After-exact-sum) → to_z w32 c.loop-i.sum-bits +ℤ to_z w32 (of_z w32 c.exact-sum.result) ≡ half c.args.words.now c.args.lag (c.loop-i.i + 1)
unfolding plain
more c =
    let xs = c.args.words.now in
    let i = c.loop-i.i in
    let lag = c.args.lag in
    let x : to_z w16 (of_z w16 (at xs (143 + i))) ≡ at xs (143 + i) = search rules in
    let y : to_z w16 (of_z w16 (at xs (143 - lag + i))) ≡ at xs (143 - lag + i) = search rules in
    rw (add-one i, got w32 c.exact-sum.type_inv c.exact-sum.ensures, x, y, c.loop-i.invariant)

pub overflow_add-sum : goal.overflow_add-sum
overflow_add-sum c = rw (more c) (half_fits c.args.words.now c.args.lag c.requires.0 c.requires.1 (c.loop-i.i + 1) (omega arith))

pub loop-i-preserved : goal.loop-i-preserved
loop-i-preserved c = to_z-of_z (overflow_add-sum c) ∙ more c

-- the loop's sum is that of all 80
all : (c : After-loop-i) → to_z w32 c.loop-i.sum-bits ≡ half c.args.words.now c.args.lag 80
all c = let e : c.loop-i.i ≡ 80 = omega arith in rw e at c.loop-i.invariant

pub overflow_mul-result : goal.overflow_mul-result
overflow_mul-result c = rw (all c) (whole_fits c.args.words.now c.args.lag c.requires.0 c.requires.1)

pub returns : goal.returns
returns c =
    to_z-of_z (overflow_mul-result c) ∙ rw (all c) (whole_is c.args.words.now c.args.lag c.requires.0 c.requires.1)
