use mathlib.Core.Path.{◌≡◌, refl, sym, ◌∙◌}
use Prim.Native.Nat.{◌+◌}
use native.Mathlib.Omega.{arith}
use native.Mathlib.Numerals.{add-one}
use borrow.Author.Rules.{rules}
use lib.IntN.{◌+ℤ◌}
use mir.Facts.{to_z-of_z}
use mir.Syntax.{w16, w32}
use mir.Val.{to_z, of_z}
use Rattle.fixed.proofs.Bounds.{got}
use Rattle.fixed.specs.Lists.{at}
use Rattle.sums.specs.Plain.{plain}
use Rattle.gain_sums.proofs.Plains.{half as half_of, half_fits, twice_fits, whole_fits, sum_is, no_overflow}
use Rattle.gain_sums.proofs.Counts.{no_clips}
use Rattle.gain_sums.proofs.plain.Goals as goal

pub loop-i-init : goal.loop-i-init
unfolding plain
loop-i-init c = record { quiet = c.requires; half_is = refl }

-- the sum with the product that is taken in
more : (c : goal.After-exact-half) → to_z w32 c.loop-i.half-bits +ℤ to_z w32 (of_z w32 c.exact-half.result) ≡ half_of c.args.left.now c.args.right.now (c.loop-i.i + 1)
unfolding plain
more c =
    let l = c.args.left.now in
    let r = c.args.right.now in
    let i = c.loop-i.i in
    let x : to_z w16 (of_z w16 (at l i)) ≡ at l i = search rules in
    let y : to_z w16 (of_z w16 (at r i)) ≡ at r i = search rules in
    rw (add-one i, got w32 c.exact-half.type_inv c.exact-half.ensures, x, y, c.loop-i.invariant.half_is)

pub overflow_add-half : goal.overflow_add-half
overflow_add-half c =
    rw (more c) (half_fits c.args.left.now c.args.right.now c.loop-i.invariant.quiet (c.loop-i.i + 1) (omega arith))

pub loop-i-preserved : goal.loop-i-preserved
loop-i-preserved c = record { quiet = c.loop-i.invariant.quiet; half_is = to_z-of_z (overflow_add-half c) ∙ more c }

-- the loop's half is that of all 40
all : (c : goal.After-loop-i) → to_z w32 c.loop-i.half-bits ≡ half_of c.args.left.now c.args.right.now 40
all c = let e : c.loop-i.i ≡ 40 = omega arith in rw e at c.loop-i.invariant.half_is

pub overflow_mul-result : goal.overflow_mul-result
overflow_mul-result c = rw (all c) (twice_fits c.args.left.now c.args.right.now c.loop-i.invariant.quiet 40 (omega arith))

pub overflow_add-result : goal.overflow_add-result
overflow_add-result c =
    rw (to_z-of_z (overflow_mul-result c), all c) (whole_fits c.args.left.now c.args.right.now c.loop-i.invariant.quiet 40 (omega arith))

pub returns : goal.returns
returns c =
    let l = c.args.left.now in
    let r = c.args.right.now in
    let q = c.loop-i.invariant.quiet in (
      to_z-of_z (overflow_add-result c) ∙ rw (to_z-of_z (overflow_mul-result c), all c) (sym (sum_is l r q 40 (omega arith))),
      no_clips l r 40 (no_overflow l r q 40 (omega arith)),
    )
