-- A clipped sum is a long, and no farther from 0 than the magnitudes of its terms together.
use Prim.Native.Nat.{ℕ, zero, suc, ◌+◌, ◌*◌, ◌^◌, ◌<◌, ◌≤◌}
use native.Mathlib.Omega.{arith}
use lib.IntN.{ℤ, pos, nat_abs, ◌+ℤ◌, ◌*ℤ◌}
use lib.Signed.{mag}
use Rattle.fixed.specs.Operators.{L_add, L_mult}
use Rattle.fixed.specs.Lists.{L_sum}
use Rattle.fixed.proofs.Bounds.{abs_add, abs_mul}
use Rattle.fixed.proofs.Clips.{clip_fits, abs_clip}

module _ (f : ℕ → ℤ) where
  pub sum_fits : (n : ℕ) → mag (L_sum (pos 0) f n) < 2 ^ 31
  unfolding L_sum L_add
  sum_fits zero = omega arith
  sum_fits (suc n) = clip_fits 31 (L_sum (pos 0) f n +ℤ f n)

  -- `m n` is at least the magnitudes of the first n terms together
  pub sum_le : (m : ℕ → ℕ) → ((k : ℕ) → m k + nat_abs (f k) ≤ m (suc k)) → (n : ℕ) → nat_abs (L_sum (pos 0) f n) ≤ m n
  unfolding L_sum L_add
  sum_le m step zero = omega arith
  sum_le m step (suc n) =
      let s = L_sum (pos 0) f n in
      omega (arith, sum_le m step n, step n, abs_clip 31 (s +ℤ f n), abs_add s (f n))

-- a doubled product
pub mult_le : (a b : ℤ) → nat_abs (L_mult a b) ≤ 2 * (nat_abs a * nat_abs b)
unfolding L_mult
mult_le a b = omega (arith, abs_clip 31 (pos 2 *ℤ (a *ℤ b)), abs_mul (pos 2) (a *ℤ b), abs_mul a b)
