use mathlib.Core.Path.{◌≡◌, ◌∙◌}
use mathlib.Core.List.{List}
use Prim.Native.Nat.{ℕ, suc, ◌≤◌, ◌<◌, ◌+◌, ◌^◌}
use native.Mathlib.Omega.{arith}
use native.Mathlib.Numerals.{add-one}
use borrow.Author.Rules.{rules}
use lib.IntN.{ℤ, pos, nat_abs, ◌+ℤ◌, ◌*ℤ◌}
use mir.Syntax.{w32}
use mir.Val.{SFits, to_z, of_z}
use mir.Facts.{to_z-of_z}
use Rattle.fixed.specs.Lists.{at, dot}
use Rattle.fixed.proofs.Bounds.{got, fits_abs}
use Rattle.sums.specs.Plain.{weighed}
use Rattle.sums.proofs.Reaches.{clipped_le, weighed_more, half_more}
use Rattle.pitch_correlation.proofs.plain_walk.Goals as goal

-- either sum: half of it is carried
module _ (xs ys : List ℤ) (below : weighed (at xs) (at ys) 40 < 2 ^ 30) where
  one_more : (n : ℕ) (z : ℤ) → n < 40 → pos 2 *ℤ z ≡ dot xs ys n →
      (nat_abs (z +ℤ at xs n *ℤ at ys n) < 2 ^ 30) × (pos 2 *ℤ (z +ℤ at xs n *ℤ at ys n) ≡ dot xs ys (suc n))
  unfolding dot
  one_more n z l e = half_more (at xs) (at ys) n z (omega (arith, below, weighed_more (at xs) (at ys) (suc n) 40 l)) e

  doubled : (n : ℕ) (z : ℤ) → n ≤ 40 → pos 2 *ℤ z ≡ dot xs ys n → SFits w32 (pos 2 *ℤ z)
  unfolding dot
  doubled n z l e = rw e (fits_abs w32 (dot xs ys n) (omega (arith, below, clipped_le (at xs) (at ys) n, weighed_more (at xs) (at ys) n 40 l)))

  -- a term more, p
  fits : (n : ℕ) (z p : ℤ) → n < 40 → p ≡ at xs n *ℤ at ys n → pos 2 *ℤ z ≡ dot xs ys n → SFits w32 (z +ℤ p)
  fits n z p l f e = rw f (fits_abs w32 _ (omega (arith, (one_more n z l e).0)))

  next : (n : ℕ) (z p : ℤ) → n < 40 → p ≡ at xs n *ℤ at ys n → pos 2 *ℤ z ≡ dot xs ys n → pos 2 *ℤ to_z w32 (of_z w32 (z +ℤ p)) ≡ dot xs ys (n + 1)
  next n z p l f e = rw (add-one n, to_z-of_z (fits n z p l f e), f) (one_more n z l e).1

pub overflow_add-energy : goal.overflow_add-energy
overflow_add-energy c =
    let x = c.args.filtered.now in
    let i = c.loop-i.i in
    fits x x c.requires.0 i (to_z w32 c.loop-i.energy-bits) _ (omega arith) (got w32 c.exact-energy.type_inv c.exact-energy.ensures ∙ (search rules)) c.loop-i.invariant.0

pub overflow_add-sum : goal.overflow_add-sum
overflow_add-sum c =
    let x = c.args.filtered.now in
    let y = c.args.target.now in
    let i = c.loop-i.i in
    fits x y c.requires.1 i (to_z w32 c.loop-i.sum-bits) _ (omega arith) (got w32 c.exact-sum.type_inv c.exact-sum.ensures ∙ (search rules)) c.loop-i.invariant.1

pub loop-i-preserved : goal.loop-i-preserved
loop-i-preserved c =
    let x = c.args.filtered.now in
    let y = c.args.target.now in
    let i = c.loop-i.i in (
      next x x c.requires.0 i (to_z w32 c.loop-i.energy-bits) _ (omega arith) (got w32 c.exact-energy.type_inv c.exact-energy.ensures ∙ (search rules)) c.loop-i.invariant.0,
      next x y c.requires.1 i (to_z w32 c.loop-i.sum-bits) _ (omega arith) (got w32 c.exact-sum.type_inv c.exact-sum.ensures ∙ (search rules)) c.loop-i.invariant.1,
    )

pub overflow_mul-result : goal.overflow_mul-result
overflow_mul-result c =
    let x = c.args.filtered.now in
    doubled x x c.requires.0 c.loop-i.i (to_z w32 c.loop-i.energy-bits) (omega arith) c.loop-i.invariant.0

pub overflow_mul-result-2 : goal.overflow_mul-result-2
overflow_mul-result-2 c = doubled c.args.filtered.now c.args.target.now c.requires.1 c.loop-i.i (to_z w32 c.loop-i.sum-bits) (omega arith) c.loop-i.invariant.1

pub returns : goal.returns
returns c =
    let e : c.loop-i.i ≡ 40 = omega arith in
    (to_z-of_z (overflow_mul-result c) ∙ (rw e at c.loop-i.invariant.0), to_z-of_z (overflow_mul-result-2 c) ∙ (rw e at c.loop-i.invariant.1))
