-- How far a sum can reach: where the greatest magnitude of one list times the sum of another's is below 2 ^ 30, no product of theirs and no sum of these
-- is clipped, and the clipped sum is the plain one. The terms are given by their places.
use mathlib.Core.Path.{◌≡◌, refl, sym, ap, subst, ◌∙◌}
use mathlib.Core.Bool.{Bool, true, false}
use Prim.Native.Nat.{ℕ, zero, suc, ◌+◌, ◌-◌, ◌*◌, ◌^◌, ◌<◌, ◌≤◌, max}
use native.Mathlib.Nat.{add-zero, add-suc, mul-le-mul, mul_comm, le_refl}
use native.Mathlib.Omega.{arith}
use lib.Dec.{eqb}
use lib.IntN.{ℤ, pos, nat_abs, ◌+ℤ◌, ◌*ℤ◌}
use borrow.Author.Tests.{eqb-true, eqb-false}
use Rattle.fixed.specs.Operators.{L_add, L_mult}
use Rattle.fixed.specs.Lists.{L_sum}
use Rattle.fixed.proofs.Bounds.{abs_add, abs_mul}
use Rattle.fixed.proofs.Sums.{sum_le, mult_le}
use Rattle.sums.specs.Plain.{plain, peak, reach, weighed}
use Rattle.sums.proofs.Plain.{double_add, unclipped, plain_mult}

-- what rises with every term
more : (f : ℕ → ℕ) → ((n : ℕ) → f n ≤ f (suc n)) → (n m : ℕ) → n ≤ m → f n ≤ f m
more f step n m h = subst (λ (k : ℕ). f n ≤ f k) {x = n + (m - n)} {y = m} (omega arith) (go (m - n))
  where
    go : (j : ℕ) → f n ≤ f (n + j)
    go zero = rw (add-zero n) (le_refl (f n))
    go (suc j) = rw (add-suc n j) (omega (arith, go j, step (n + j)))

-- ---- the law of clipping
module _ (x y : ℕ → ℤ) where
  pub plain_le : (n : ℕ) → nat_abs (plain x y n) ≤ weighed x y n
  unfolding plain weighed
  plain_le zero = omega arith
  plain_le (suc n) = omega (arith, plain_le n, abs_add (plain x y n) (x n *ℤ y n), abs_mul (x n) (y n))

  -- the clipped sum too
  pub clipped_le : (n : ℕ) → nat_abs (L_sum (pos 0) (λ k. L_mult (x k) (y k)) n) ≤ 2 * weighed x y n
  unfolding weighed
  clipped_le = sum_le (λ k. L_mult (x k) (y k)) (λ n. 2 * weighed x y n) (λ k. omega (arith, mult_le (x k) (y k)))

  -- half a sum stands for the clipped sum, and with a term more it does again
  pub half_more : (n : ℕ) (z : ℤ) → weighed x y (suc n) < 2 ^ 30 → pos 2 *ℤ z ≡ L_sum (pos 0) (λ k. L_mult (x k) (y k)) n →
      (nat_abs (z +ℤ x n *ℤ y n) < 2 ^ 30) × (pos 2 *ℤ (z +ℤ x n *ℤ y n) ≡ L_sum (pos 0) (λ k. L_mult (x k) (y k)) (suc n))
  unfolding weighed L_sum L_add
  half_more n z h e =
      let b = abs_mul (x n) (y n) in
      let c = rw (← e, abs_mul (pos 2) z) at (clipped_le n) in
      let s : nat_abs (z +ℤ x n *ℤ y n) < 2 ^ 30 = omega (arith, h, b, c, abs_add z (x n *ℤ y n)) in
      (s, rw (← e, plain_mult (x n) (y n) (omega (arith, h, b)), ← (double_add z (x n *ℤ y n))) (sym (unclipped (z +ℤ x n *ℤ y n) s)))

  pub never_clipped : (n : ℕ) → weighed x y n < 2 ^ 30 → L_sum (pos 0) (λ k. L_mult (x k) (y k)) n ≡ pos 2 *ℤ plain x y n
  unfolding plain weighed L_sum
  never_clipped zero h = refl
  never_clipped (suc n) h = sym (half_more n (plain x y n) h (sym (never_clipped n (omega arith)))).1

  -- what a test computes is no less
  pub weighed_le : (peak n : ℕ) → ((k : ℕ) → k < n → nat_abs (x k) ≤ peak) → weighed x y n ≤ peak * reach y n
  unfolding weighed reach
  weighed_le peak zero p = omega arith
  weighed_le peak (suc n) p =
      omega (arith, weighed_le peak n (λ k h. p k (omega arith)), mul-le-mul (p n (omega arith)) (le_refl (nat_abs (y n))))

  pub weighed_more : (n m : ℕ) → n ≤ m → weighed x y n ≤ weighed x y m
  unfolding weighed
  weighed_more = more (weighed x y) (λ n. omega arith)

-- the factors in either order
pub weighed_comm : (x y : ℕ → ℤ) (n : ℕ) → weighed x y n ≡ weighed y x n
unfolding weighed
weighed_comm x y zero = refl
weighed_comm x y (suc n) = rw (weighed_comm x y n, mul_comm (nat_abs (x n)) (nat_abs (y n)))

-- terms that are equal
pub weighed_same : (x y u v : ℕ → ℤ) (n : ℕ) → ((k : ℕ) → k < n → x k ≡ u k) → ((k : ℕ) → k < n → y k ≡ v k) → weighed x y n ≡ weighed u v n
unfolding weighed
weighed_same x y u v zero e f = refl
weighed_same x y u v (suc n) e f =
    rw (weighed_same x y u v n (λ k h. e k (omega arith)) (λ k h. f k (omega arith)), e n (omega arith), f n (omega arith))

-- terms of which one factor is 0
pub weighed_silent : (x y : ℕ → ℤ) (n j : ℕ) → ((k : ℕ) → n ≤ k → y k ≡ pos 0) → weighed x y (n + j) ≡ weighed x y n
unfolding weighed
weighed_silent x y n zero e = rw (add-zero n)
weighed_silent x y n (suc j) e = rw (add-suc n j, weighed_silent x y n j e, e (n + j) (omega arith)) (omega arith)

-- ---- the magnitudes of one list
pub reach_more : (y : ℕ → ℤ) (n m : ℕ) → n ≤ m → reach y n ≤ reach y m
unfolding reach
reach_more y = more (reach y) (λ n. omega arith)

-- the first term apart
reach_front : (y : ℕ → ℤ) (n : ℕ) → reach y (suc n) ≡ nat_abs (y 0) + reach (λ k. y (suc k)) n
unfolding reach
reach_front y zero = omega arith
reach_front y (suc n) = rw (reach_front y n) (omega arith)

-- terms that are equal
reach_same : (y z : ℕ → ℤ) (n : ℕ) → ((k : ℕ) → k < n → y k ≡ z k) → reach y n ≡ reach z n
unfolding reach
reach_same y z zero e = refl
reach_same y z (suc n) e = rw (reach_same y z n (λ k h. e k (omega arith)), e n (omega arith))

-- a list reversed
pub reach_reversed : (y : ℕ → ℤ) (n : ℕ) → reach (λ k. y (n - k)) (suc n) ≡ reach y (suc n)
unfolding reach
reach_reversed y zero = refl
reach_reversed y (suc n) =
    let e : reach (λ k. y (suc n - suc k)) (suc n) ≡ reach (λ k. y (n - k)) (suc n) = reach_same _ _ (suc n) (λ k h. let d : suc n - suc k ≡ n - k = omega arith in ap y d) in
    let f : nat_abs (y (suc n - 0)) ≡ nat_abs (y (suc n)) = ap (λ (k : ℕ). nat_abs (y k)) (omega arith) in
    reach_front (λ k. y (suc n - k)) (suc n) ∙ omega (arith, e, f, reach_reversed y n)

-- no magnitude is above the greatest
pub peak_le : (y : ℕ → ℤ) (n k : ℕ) → k < n → nat_abs (y k) ≤ peak y n
unfolding peak
peak_le y zero k h = absurd (omega arith)
peak_le y (suc n) k h = go (eqb k n) refl (λ l. peak_le y n k l)
  where
    go : (t : Bool) → eqb k n ≡ t → (k < n → nat_abs (y k) ≤ peak y n) → nat_abs (y k) ≤ max (peak y n) (nat_abs (y n))
    go true q r = rw (eqb-true k n q) (omega arith)
    go false q r = let o = eqb-false k n q in omega (arith, r (omega (arith, o)))

-- ---- the two tests of a convolution, at place n of 40
module _ (x h : ℕ → ℤ) (n : ℕ) (l : n < 40) where
  pub by_first : peak x 40 * reach h 40 < 2 ^ 30 → weighed x (λ k. h (n - k)) (suc n) < 2 ^ 30
  by_first b =
      let w = weighed_le x (λ k. h (n - k)) (peak x 40) (suc n) (λ k q. peak_le x 40 k (omega arith)) in
      let m : reach (λ k. h (n - k)) (suc n) ≤ reach h 40 = omega (arith, reach_reversed h n, reach_more h (suc n) 40 l) in
      omega (arith, w, mul-le-mul (le_refl (peak x 40)) m, b)

  pub by_second : peak h 40 * reach x 40 < 2 ^ 30 → weighed x (λ k. h (n - k)) (suc n) < 2 ^ 30
  by_second b =
      let w = weighed_le (λ k. h (n - k)) x (peak h 40) (suc n) (λ k q. peak_le h 40 (n - k) (omega arith)) in
      rw (weighed_comm x (λ k. h (n - k)) (suc n)) (omega (arith, w, mul-le-mul (le_refl (peak h 40)) (reach_more x (suc n) 40 l), b))
