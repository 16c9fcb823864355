-- 02, request 14: how far the long before the cut lies from 0, for every lag. The statement is over it: open_loop/specs/Statement.antt.
use mathlib.Core.Path.{◌≡◌, refl}
use mathlib.Core.Bool.{Bool, true, false}
use mathlib.Core.List.{List}
use Prim.Native.Nat.{ℕ, ◌+◌, ◌-◌, ◌*◌, ◌^◌, ◌<◌, ◌≤◌, min}
use native.Mathlib.Nat.{mul-le-mul, mul-le-mul_right, le_trans}
use native.Mathlib.Omega.{arith}
use lib.Dec.{leb}
use lib.IntN.{ℤ, pos, nat_abs, ◌*ℤ◌}
use lib.Signed.{mag, lt_z, le_z, nat_abs-le}
use borrow.Author.Tests.{leb-true, leb-false, ltb-true}
use Rattle.fixed.specs.Operators.{L_mult, shl, shift_at}
use Rattle.fixed.specs.Lists.{at}
use Rattle.fixed.proofs.Bounds.{abs_mul}
use Rattle.fixed.proofs.Clips.{abs_clip}
use Rattle.fixed.proofs.Lists.{at_tabulate}
use Rattle.fixed.proofs.Shifts.{eighth_le}
use Rattle.fixed.proofs.Sums.{sum_fits}
use Rattle.fixed.proofs.ByHalves.{product_le}
use Rattle.sums.specs.Plain.{squared, weighed}
use Rattle.sums.proofs.Quiet.{weighed_mean, window, squared_le, squared_below}
use Rattle.sums.proofs.Reaches.{clipped_le}
use Rattle.energy.proofs.Roots.{rooted}
use Rattle.open_loop_correlation.specs.Correlations.{products, correlation}
use Rattle.open_loop_correlation.proofs.Energies.{from, energy_at, energy_whole}
use Rattle.open_loop_sections.specs.Sections.{scaled, scaled_all, delayed_energy, long_at}

-- ---- where the new words' squares are at most 80 * 2 ^ 24
module _ (ys : List ℤ) (lag : ℕ) (new : squared (from ys 143) 80 ≤ 80 * 2 ^ 24) where
  -- the delayed words' squares, and how far the correlation lies from 0
  old : ℕ
  old = squared (from ys (143 - lag)) 80

  far : ℕ
  far = nat_abs (correlation ys lag)

  far_le : far ≤ 2 * weighed (from ys 143) (from ys (143 - lag)) 80
  unfolding far correlation products
  far_le = clipped_le (from ys 143) (from ys (143 - lag)) 80

  correlation_fits : mag (correlation ys lag) < 2 ^ 31
  unfolding correlation products
  correlation_fits = sum_fits (λ k. L_mult (at ys (143 + k)) (at ys (143 - lag + k))) 80

  energy_is : delayed_energy ys lag ≡ pos (min (2 * old) 2147483647)
  unfolding delayed_energy old
  energy_is = energy_at ys (143 - lag) 80

  -- with r the inverse root: the energy is not clipped
  below_clip : (r : ℕ) → r * r * (2 * old) ≤ 17 * 2 ^ 56 → far * r ≤ 27 * 2 ^ 41
  unfolding old
  below_clip r h =
      let W : ℕ = weighed (from ys 143) (from ys (143 - lag)) 80 in
      let a = weighed_mean (from ys 143) (from ys (143 - lag)) 16384 r 80 in
      let b : far * r ≤ 2 * W * r = mul-le-mul_right r far_le in
      omega (arith, a, b, new, h)

  -- it is: r is at most 27000
  at_clip : (r : ℕ) → r * r * 2147483647 ≤ 17 * 2 ^ 56 → far * r ≤ 27 * 2 ^ 41
  unfolding far
  at_clip r h = le_trans (mul-le-mul (nat_abs-le (correlation ys lag) correlation_fits) (small (leb r 27000) refl)) (omega arith)
    where
      small : (t : Bool) → leb r 27000 ≡ t → r ≤ 27000
      small true e = leb-true r 27000 e
      small false e = let l = leb-false r 27000 e in absurd (omega (arith, h, mul-le-mul {n₁ = 27000} {m₁ = 27000} {n₂ = r} {m₂ = r} (omega arith) (omega arith)))

  -- 27 * 2 ^ 41 by 2 ^ 31 is 27648
  pub long_le : nat_abs (long_at ys lag) ≤ 27655
  unfolding long_at far
  long_le =
      let R = rooted (min (2 * old) 2147483647) (omega arith) in
      let p = product_le (correlation ys lag) R.root correlation_fits R.small in
      rw (energy_is, R.is) (omega (arith, p, both (leb (2 * old) 2147483647) refl R.root R.square))
    where
      both : (t : Bool) → leb (2 * old) 2147483647 ≡ t → (r : ℕ) → r * r * min (2 * old) 2147483647 ≤ 17 * 2 ^ 56 → nat_abs (correlation ys lag) * r ≤ 27 * 2 ^ 41
      both true q r h = let e : min (2 * old) 2147483647 ≡ 2 * old = omega (arith, leb-true (2 * old) 2147483647 q) in below_clip r (rw e at h)
      both false q r h = let e : min (2 * old) 2147483647 ≡ 2147483647 = omega (arith, leb-false (2 * old) 2147483647 q) in at_clip r (rw e at h)

-- ---- scaled words are such
raised_le : (z : ℤ) → nat_abs (shl z (pos 3)) ≤ 8 * nat_abs z
unfolding shift_at
raised_le z = omega (arith, abs_clip 15 (z *ℤ pos 8), abs_mul z (pos 8))

module _ (xs : List ℤ) (words : (k : ℕ) → k < 223 → mag (at xs k) < 2 ^ 15) where
  squares : ℕ
  squares = squared (at xs) 223

  total : products xs 0 0 223 ≡ pos (min (2 * squares) 2147483647)
  unfolding squares
  total = energy_whole xs 223

  among : squared (from xs 143) 80 ≤ squares
  unfolding squares
  among = window (at xs) 143 80 223 (omega arith)

  new_at : (k : ℕ) → k < 80 → from (scaled_all xs) 143 k ≡ scaled (products xs 0 0 223) (from xs 143 k)
  unfolding scaled_all
  new_at k h = at_tabulate (λ j. scaled (products xs 0 0 223) (at xs j)) (pos 0) 223 (143 + k) (omega arith)

  pub new_le : squared (from (scaled_all xs) 143) 80 ≤ 80 * 2 ^ 24
  new_le = go (le_z (pos 2147483647) (products xs 0 0 223)) refl (lt_z (products xs 0 0 223) (pos 1048576)) refl
    where
      quiet : lt_z (pos (min (2 * squares) 2147483647)) (pos 1048576) ≡ true → squares < 524288
      quiet q = omega (arith, ltb-true (min (2 * squares) 2147483647) 1048576 q)

      middle : le_z (pos 2147483647) (pos (min (2 * squares) 2147483647)) ≡ false → squares < 2 ^ 30
      middle q = omega (arith, leb-false 2147483647 (min (2 * squares) 2147483647) q)

      go : (s : Bool) → le_z (pos 2147483647) (products xs 0 0 223) ≡ s → (t : Bool) → lt_z (products xs 0 0 223) (pos 1048576) ≡ t → squared (from (scaled_all xs) 143) 80 ≤ 80 * 2 ^ 24
      go true p t q =
          le_trans (squared_below (from (scaled_all xs) 143) 4096 80 (λ k h. rw (new_at k h, p) (eighth_le (from xs 143 k) (words (143 + k) (omega arith))))) (omega arith)
      go false p true q =
          omega (arith, quiet (rw total at q), among, squared_le (from (scaled_all xs) 143) (from xs 143) 8 80 (λ k h. rw (new_at k h, p, q) (raised_le (from xs 143 k))))
      go false p false q =
          omega (arith, middle (rw total at p), among, squared_le (from (scaled_all xs) 143) (from xs 143) 1 80 (λ k h. rw (new_at k h, p, q) (omega arith)))
