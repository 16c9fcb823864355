-- An energy that is not clipped proves that no correlation is: 2 |a b| is at most a² + b², so where the squares of two lists sum to less than 2 ^ 31,
-- no product of theirs and no sum of these is clipped, and the clipped sum is the plain one.
use mathlib.Core.Path.{◌≡◌, refl, subst}
use mathlib.Core.Bool.{Bool, true, false}
use mathlib.Core.List.{List}
use Prim.Native.Nat.{ℕ, zero, suc, ◌+◌, ◌-◌, ◌*◌, ◌^◌, ◌<◌, ◌≤◌, min}
use native.Mathlib.Nat.{add-zero, add-suc, mul-le-mul, le-mul_of_pos_right, le_refl}
use native.Mathlib.Omega.{arith}
use lib.Dec.{leb, ltb}
use lib.IntN.{ℤ, pos, nat_abs, ◌+ℤ◌, ◌*ℤ◌, +ℤ_idr}
use lib.Signed.{lt_z}
use borrow.Author.Tests.{ltb-true, ltb-false, leb-true, leb-false}
use Rattle.fixed.specs.Operators.{L_add, L_mult}
use Rattle.fixed.specs.Lists.{at, L_sum, dot}
use Rattle.fixed.proofs.Bounds.{abs_add, abs_mul}
use Rattle.sums.specs.Plain.{squared, plain, weighed}
use Rattle.sums.proofs.Plain.{double_add, unclipped, plain_mult}
use Rattle.sums.proofs.Sums.{energy_is}

-- ---- the law of clipping
-- a number against itself and more
mean_more : (a d : ℕ) → 2 * (a * (a + d)) ≤ a * a + (a + d) * (a + d)
mean_more a d = omega arith

pub mean : (a b : ℕ) → 2 * (a * b) ≤ a * a + b * b
mean a b = go (leb a b) refl
  where
    go : (t : Bool) → leb a b ≡ t → 2 * (a * b) ≤ a * a + b * b
    go true e =
        let l = leb-true a b e in
        let s : a + (b - a) ≡ b = omega arith in
        subst (λ (c : ℕ). 2 * (a * c) ≤ a * a + c * c) s (mean_more a (b - a))
    go false e =
        let l = leb-false a b e in
        let s : b + (a - b) ≡ a = omega arith in
        let h = subst (λ (c : ℕ). 2 * (b * c) ≤ b * b + c * c) s (mean_more b (a - b)) in
        omega arith

module _ (x y : ℕ → ℤ) where
  pub small : (n : ℕ) → 2 * nat_abs (plain x y n) ≤ squared x n + squared y n
  unfolding plain squared
  small zero = omega arith
  small (suc n) =
      let h = small n in
      let a = abs_add (plain x y n) (x n *ℤ y n) in
      let b = abs_mul (x n) (y n) in
      let m = mean (nat_abs (x n)) (nat_abs (y n)) in
      omega arith

  -- the magnitudes of the products, one list weighed by q and the other by r
  pub weighed_mean : (q r n : ℕ) → 2 * (q * r * weighed x y n) ≤ q * q * squared x n + r * r * squared y n
  unfolding weighed squared
  weighed_mean q r zero = omega arith
  weighed_mean q r (suc n) = omega (arith, weighed_mean q r n, mean (q * nat_abs (x n)) (r * nat_abs (y n)))

  -- the Cauchy-Schwarz inequality: from the mean, one list weighed by the products and the other by the squares
  pub cauchy_schwarz : (n : ℕ) → weighed x y n * weighed x y n ≤ squared x n * squared y n
  cauchy_schwarz n = go (leb (weighed x y n * weighed x y n) (squared x n * squared y n)) refl
    where
      go : (t : Bool) → leb (weighed x y n * weighed x y n) (squared x n * squared y n) ≡ t → weighed x y n * weighed x y n ≤ squared x n * squared y n
      go true e = leb-true (weighed x y n * weighed x y n) (squared x n * squared y n) e
      go false e =
          let w : ℕ = weighed x y n in
          let a : ℕ = squared x n in
          let b : ℕ = squared y n in
          let l : a * b < w * w = leb-false (w * w) (a * b) e in
          let m : a * (a * b + 1) ≤ a * (w * w) = mul-le-mul (le_refl a) (omega arith) in
          let none : a ≡ 0 = omega (arith, m, weighed_mean w a n) in
          let f = rw none at (weighed_mean ((b + 1) * w) 1 n) in
          absurd (omega (arith, f, le-mul_of_pos_right {m = w * w} (b + 1) (omega arith)))

  -- so two lists whose squares multiply to less than 2 ^ 60
  pub weighed_below : (n : ℕ) → squared x n * squared y n < 2 ^ 60 → weighed x y n < 2 ^ 30
  weighed_below n h = go (ltb (weighed x y n) (2 ^ 30)) refl
    where
      go : (t : Bool) → ltb (weighed x y n) (2 ^ 30) ≡ t → weighed x y n < 2 ^ 30
      go true e = ltb-true (weighed x y n) (2 ^ 30) e
      go false e = let l = ltb-false (weighed x y n) (2 ^ 30) e in absurd (omega (arith, h, cauchy_schwarz n, mul-le-mul l l))

  -- two quiet lists, whose squares sum to less than 2 ^ 31: the clipped sum is the plain one
  pub quiet : (n : ℕ) → squared x n + squared y n < 2 ^ 31 → L_sum (pos 0) (λ k. L_mult (x k) (y k)) n ≡ pos 2 *ℤ plain x y n
  unfolding plain squared L_sum L_add
  quiet zero h = refl
  quiet (suc n) h =
      let s = small n in
      let a = abs_add (plain x y n) (x n *ℤ y n) in
      let b = abs_mul (x n) (y n) in
      let m = mean (nat_abs (x n)) (nat_abs (y n)) in
      rw (quiet n (omega arith), plain_mult (x n) (y n) (omega arith), ← (double_add (plain x y n) (x n *ℤ y n)))
      (unclipped (plain x y n +ℤ x n *ℤ y n) (omega arith))

-- a list with itself
pub weighed_self : (x : ℕ → ℤ) (n : ℕ) → weighed x x n ≡ squared x n
unfolding weighed squared
weighed_self x zero = refl
weighed_self x (suc n) = rw (weighed_self x n)

-- ---- parts of a sum
module _ (x : ℕ → ℤ) where
  pub squared_more : (n j : ℕ) → squared x n ≤ squared x (n + j)
  unfolding squared
  squared_more n zero = rw (add-zero n) (omega arith)
  squared_more n (suc j) = let h = squared_more n j in rw (add-suc n j) (omega arith)

  pub squared_from : (from n : ℕ) → squared (λ k. x (from + k)) n ≤ squared x (from + n)
  unfolding squared
  squared_from from zero = omega arith
  squared_from from (suc n) = let h = squared_from from n in rw (add-suc from n) (omega arith)

  -- n terms from a place on are among the first m
  pub window : (from n m : ℕ) → from + n ≤ m → squared (λ k. x (from + k)) n ≤ squared x m
  window from n m h =
      let e : from + n + (m - (from + n)) ≡ m = omega arith in
      let l = subst (λ (k : ℕ). squared x (from + n) ≤ squared x k) e (squared_more (from + n) (m - (from + n))) in
      omega (arith, squared_from from n)

-- terms of at most m times the others' magnitudes, and of at most b
pub squared_le : (x y : ℕ → ℤ) (m n : ℕ) → ((k : ℕ) → k < n → nat_abs (x k) ≤ m * nat_abs (y k)) → squared x n ≤ m * m * squared y n
unfolding squared
squared_le x y m zero h = omega arith
squared_le x y m (suc n) h =
    omega (arith, squared_le x y m n (λ k l. h k (omega arith)), mul-le-mul (h n (omega arith)) (h n (omega arith)))

pub squared_below : (x : ℕ → ℤ) (b n : ℕ) → ((k : ℕ) → k < n → nat_abs (x k) ≤ b) → squared x n ≤ n * (b * b)
unfolding squared
squared_below x b zero h = omega arith
squared_below x b (suc n) h =
    omega (arith, squared_below x b n (λ k l. h k (omega arith)), mul-le-mul (h n (omega arith)) (h n (omega arith)))

-- terms that are equal
pub squared_same : (x y : ℕ → ℤ) (n : ℕ) → ((k : ℕ) → k < n → x k ≡ y k) → squared x n ≡ squared y n
unfolding squared
squared_same x y zero e = refl
squared_same x y (suc n) e = rw (squared_same x y n (λ k h. e k (omega arith)), e n (omega arith))

pub plain_same : (x y u v : ℕ → ℤ) (n : ℕ) → ((k : ℕ) → k < n → x k ≡ u k) → ((k : ℕ) → k < n → y k ≡ v k) → plain x y n ≡ plain u v n
unfolding plain
plain_same x y u v zero e f = refl
plain_same x y u v (suc n) e f =
    rw (plain_same x y u v n (λ k h. e k (omega arith)) (λ k h. f k (omega arith)), e n (omega arith), f n (omega arith))

-- terms of which one factor is 0
pub plain_silent : (x y : ℕ → ℤ) (n j : ℕ) → ((k : ℕ) → n ≤ k → x k *ℤ y k ≡ pos 0) → plain x y (n + j) ≡ plain x y n
unfolding plain
plain_silent x y n zero e = rw (add-zero n)
plain_silent x y n (suc j) e = rw (add-suc n j, plain_silent x y n j e, e (n + j) (omega arith)) (+ℤ_idr (plain x y n))

-- ---- the caller's test of an energy
pub not_clipped : (a : ℕ) → lt_z (pos (min (2 * a) 2147483647)) (pos 2147483647) ≡ true → a < 2 ^ 30
not_clipped a e = omega (arith, ltb-true (min (2 * a) 2147483647) 2147483647 e)

-- so of a list whose energy is not clipped
pub quiet_energy : (xs : List ℤ) (n : ℕ) → lt_z (dot xs xs n) (pos 2147483647) ≡ true → squared (at xs) n < 2 ^ 30
quiet_energy xs n e = not_clipped (squared (at xs) n) (rw (energy_is xs n) at e)
