-- Normalising: every long but 0, shifted to the left by `norm_l`, has its highest bit at 2 ^ 30 and still fits.
use mathlib.Core.Path.{◌≡◌, refl, sym, ap, ◌∙◌}
use Prim.Native.Nat.{ℕ, zero, suc, ◌+◌, ◌-◌, ◌*◌, ◌%◌, ◌^◌, ◌<◌, ◌≤◌}
use native.Mathlib.Nat.{lt_of_not-le, not-le_of_lt, le_trans, lt_of_le_of_lt, mul-le-mul_right, le_of_eq, mod-eq_of_lt}
use native.Mathlib.Omega.{arith}
use lib.Count.{count_leading_zeros, leading_top, leading_length}
use lib.IntN.{ℤ, pos, negsuc, ◌*ℤ◌}
use lib.Pow.{pow_pos, pow_mono, pow-add}
use lib.Signed.{mag}
use Rattle.fixed.specs.Operators.{norm_l, normal}
use Rattle.fixed.proofs.Signs.{neg_pos}

pow_below : (i j : ℕ) → 2 ^ i < 2 ^ j → i < j
pow_below i j h = lt_of_not-le (λ (g : j ≤ i). not-le_of_lt h (pow_mono g))

-- a number of 31 bits has a leading zero
pub one_zero : (n : ℕ) → n < 2 ^ 31 → 1 ≤ count_leading_zeros 32 n
one_zero n h =
    let l = leading_length 32 n (omega arith) in
    let b = pow_below l.0 32 (lt_of_le_of_lt l.3 (omega arith)) in
    omega (arith, l.1)

-- n and n + 1, shifted up by all leading zeros of n but one
shifted_up : (n : ℕ) → zero < n → n < 2 ^ 31 → (2 ^ 30 ≤ n * 2 ^ (count_leading_zeros 32 n - 1)) × (suc n * 2 ^ (count_leading_zeros 32 n - 1) ≤ 2 ^ 31)
shifted_up n p h =
    let t = leading_top 32 n p (omega arith) in
    let o = one_zero n h in
    let s : ℕ = count_leading_zeros 32 n - 1 in
    let e : 30 ≡ t.0 + s = omega (arith, t.1) in
    let e' : 31 ≡ suc t.0 + s = omega (arith, t.1) in (
      le_trans (le_of_eq (ap (λ (k : ℕ). 2 ^ k) e ∙ pow-add 2 t.0 s)) (mul-le-mul_right (2 ^ s) t.2),
      le_trans (mul-le-mul_right (2 ^ s) t.3) (le_of_eq (sym (ap (λ (k : ℕ). 2 ^ k) e' ∙ pow-add 2 (suc t.0) s))),
    )

pub norm_pos : (n : ℕ) → zero < n → n < 2 ^ 31 → (2 ^ 30 ≤ n * 2 ^ (count_leading_zeros 32 n - 1)) × (n * 2 ^ (count_leading_zeros 32 n - 1) < 2 ^ 31)
norm_pos n p h = let t = shifted_up n p h in let q = pow_pos (count_leading_zeros 32 n - 1) in (t.0, omega (arith, t.1))

-- the law for both signs
pub normalised : (z : ℤ) → (z ≡ pos 0 → ⊥) → mag z < 2 ^ 31 → (2 ^ 30 ≤ mag (z *ℤ pos (2 ^ norm_l z))) × (mag (z *ℤ pos (2 ^ norm_l z)) < 2 ^ 31)
unfolding norm_l count_leading_zeros
normalised (pos zero) h f = absurd (h refl)
normalised (pos (suc n)) h f = norm_pos (suc n) (omega arith) f
normalised (negsuc zero) h f = (omega arith, omega arith)
normalised (negsuc (suc n)) h f =
    let t = shifted_up (suc n) (omega arith) f in
    let q = pow_pos (count_leading_zeros 32 (suc n) - 1) in
    let p : ℕ = 2 ^ (count_leading_zeros 32 (suc n) - 1) in
    rw (neg_pos (suc (suc n) * p) (suc (suc n) * p - 1) (omega arith)) (omega (arith, t.0), omega (arith, t.1))

-- the count itself, as the code finds it, and its range
pub norm_mag : (z : ℤ) → (z ≡ pos 0 → ⊥) → count_leading_zeros 32 (mag z) - 1 ≡ norm_l z
unfolding norm_l
norm_mag (pos zero) h = absurd (h refl)
norm_mag (pos (suc n)) h = refl
norm_mag (negsuc n) h = refl

pub norm_le : (n : ℕ) → zero < n → n < 2 ^ 32 → count_leading_zeros 32 n - 1 ≤ 30
norm_le n p h = let t = leading_top 32 n p h in omega (arith, t.1)

-- the same of a positive number u, as u32 code has it: leading zeros but one are the count, and the shift loses no bit
module _ (u : ℕ) (p : zero < u) (h : u < 2 ^ 31) where
  pub norm_is : count_leading_zeros 32 u - 1 ≡ norm_l (pos u)
  norm_is = norm_mag (pos u) (λ (e : pos u ≡ pos 0). let z : u ≡ 0 = cc in omega arith)

  pub norm_at_most : norm_l (pos u) ≤ 30
  norm_at_most = rw (← norm_is) (norm_le u p (omega arith))

  pub normal_range : (2 ^ 30 ≤ normal u) × (normal u < 2 ^ 31)
  normal_range = rw (← norm_is) (norm_pos u p h)

  pub normal_is : (u * 2 ^ (count_leading_zeros 32 u - 1)) % 2 ^ 32 ≡ normal u
  normal_is = mod-eq_of_lt (omega (arith, norm_pos u p h)) ∙ ap (λ (s : ℕ). u * 2 ^ s) norm_is
