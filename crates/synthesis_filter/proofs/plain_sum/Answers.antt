use Prim.Native.Nat.{ℕ, suc, ◌-◌}
use mathlib.Core.Path.{ap, sym, ◌≡◌, ◌∙◌}
use native.Mathlib.Omega.{arith}
use lib.IntN.{pos, ◌-ℤ◌, ◌*ℤ◌}
use mir.Syntax.{w16, w32}
use mir.Val.{to_z, of_z}
use mir.Facts.{to_z-of_z}
use Rattle.fixed.proofs.Bounds.{got, fits_abs, abs_mul}
use Rattle.fixed.specs.Lists.{at}
use Rattle.synthesis_filter.proofs.Plainly.{tapped, exact_less, exact_above, bound_above, plain_filter}
use borrow.Author.Rules.{rules}
use Rattle.synthesis_filter.proofs.plain_sum.Goals as goal

-- the product that an iteration subtracts
product : (c : goal.After-exact-sum-in-loop-tap) → to_z w32 (of_z w32 c.exact-sum-in-loop-tap.result) ≡ tapped c.args.coefficients.now c.args.before.samples.now c.args.before.place (c.loop-tap.tap - 1 - 1)
product c =
    let cs = c.args.coefficients.now in
    let ys = c.args.before.samples.now in
    let place = c.args.before.place in
    let t = c.loop-tap.tap - 1 in
    let q : t ≡ suc (t - 1) = omega arith in
    let x : to_z w16 (of_z w16 (at cs t)) ≡ at cs t = search rules in
    let y : to_z w16 (of_z w16 (at ys (place - t))) ≡ at ys (place - t) = search rules in
    rw (got w32 c.exact-sum-in-loop-tap.type_inv c.exact-sum-in-loop-tap.ensures, x, y) (ap (λ (n : ℕ). at cs n *ℤ at ys (place - n)) q)

pub overflow_sub-sum : goal.overflow_sub-sum
overflow_sub-sum c =
    let cs = c.args.coefficients.now in
    let ys = c.args.before.samples.now in
    let m = c.loop-tap.tap - 1 - 1 in
    let q : c.loop-tap.tap - 1 ≡ suc m = omega arith in
    let h = rw q at c.loop-tap.invariant.1 in
    let z = to_z w32 c.loop-tap.sum-bits in
    rw (product c) (fits_abs w32 (z -ℤ tapped cs ys c.args.before.place m) (omega (arith, h, bound_above cs ys c.args.before.place z m)))

pub loop-tap-preserved : goal.loop-tap-preserved
loop-tap-preserved c =
    let cs = c.args.coefficients.now in
    let ys = c.args.before.samples.now in
    let place = c.args.before.place in
    let m = c.loop-tap.tap - 1 - 1 in
    let q : c.loop-tap.tap - 1 ≡ suc m = omega arith in
    let e = product c in
    let h = rw q at c.loop-tap.invariant.1 in
    let z = to_z w32 c.loop-tap.sum-bits in
    let d = z -ℤ tapped cs ys place m in
    let b = bound_above cs ys place z m in
    let f : to_z w32 (of_z w32 (z -ℤ to_z w32 (of_z w32 c.exact-sum-in-loop-tap.result))) ≡ d = rw e (to_z-of_z (fits_abs w32 d (omega (arith, h, b)))) in (
      omega arith,
      rw f (omega (arith, h, b)),
      rw f (exact_above cs ys place z m ∙ rw q at c.loop-tap.invariant.2),
    )

pub returns : goal.returns
unfolding exact_less
returns c =
    let cs = c.args.coefficients.now in
    let z = to_z w32 c.loop-tap.sum-bits in
    let n : c.loop-tap.tap - 1 ≡ 0 = omega arith in
    let e = rw (to_z-of_z c.ranges.excitation, n) at c.loop-tap.invariant.2 in
    to_z-of_z (fits_abs w32 (pos 2 *ℤ z) (rw (abs_mul (pos 2) z) (omega (arith, c.loop-tap.invariant.1))))
    ∙ rw e (sym (plain_filter cs c.args.before.samples.now c.args.before.place c.args.excitation c.requires))
