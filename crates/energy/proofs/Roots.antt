-- How large an inverse root is: squared and times its number at most 17 * 2 ^ 56, which is 17/16 of 2 ^ 60, by one test over the table.
use mathlib.Core.Path.{◌≡◌, refl, sym, ap, ◌∙◌}
use mathlib.Core.Bool.{Bool, true, false, cond}
use Prim.Native.Nat.{ℕ, zero, suc, ◌+◌, ◌-◌, ◌*◌, ◌/◌, ◌%◌, ◌^◌, ◌<◌, ◌≤◌}
use native.Mathlib.Nat.{mul-le-mul, mul-le-mul_left, le_refl, le_trans, le_of_eq, div-mul-le_self, le_of_mul-le-mul_left}
use native.Mathlib.Omega.{arith}
use lib.Dec.{T, leb, eqb, leb→le}
use lib.IntN.{pos}
use lib.ListN.{get_or}
use lib.Pow.{pow-add, pow_pos}
use borrow.Author.Tests.{eqb-true, eqb-false}
use Rattle.fixed.specs.Operators.{norm_l, normal, exponent}
use Rattle.fixed.specs.Line.{table_line}
use Rattle.fixed.proofs.Lines.{line_le}
use Rattle.fixed.proofs.Norms.{norm_at_most, normal_range}
use Rattle.fixed.proofs.Tables.{both, both_left, both_right, at as tested_at}
use Rattle.energy.specs.Root.{inverses, root_in, Inv_sqrt_in, Inv_sqrt}

-- ---- the table's rule
abbrev entry : ℕ → ℕ
entry i = get_or inverses i 0

-- no entry is below the next; none is above 32767; entry i, squared and times i + 17, is at most 17 * 2 ^ 30
ruled : ℕ → ℕ → Bool
ruled i t = both (leb (entry (i + 1)) t) (both (leb t 32767) (leb (t * t * (i + 17)) (17 * 2 ^ 30)))

tested : (i : ℕ) → i < 49 → T (ruled i (entry i))
unfolding ruled inverses
tested i h = tested_at 0 ruled inverses tt i h

falls : (i : ℕ) → i < 49 → entry (i + 1) ≤ entry i
unfolding ruled
falls i h = leb→le (entry (i + 1)) (entry i) (both_left (leb (entry (i + 1)) (entry i)) _ (tested i h))

entry_le : (i : ℕ) → i < 49 → entry i ≤ 32767
unfolding ruled
entry_le i h = leb→le (entry i) 32767 (both_left (leb (entry i) 32767) _ (both_right (leb (entry (i + 1)) (entry i)) _ (tested i h)))

entry_square : (i : ℕ) → i < 49 → entry i * entry i * (i + 17) ≤ 17 * 2 ^ 30
unfolding ruled
entry_square i h =
    leb→le (entry i * entry i * (i + 17)) (17 * 2 ^ 30) (both_right (leb (entry i) 32767) _ (both_right (leb (entry (i + 1)) (entry i)) _ (tested i h)))

-- ---- a mantissa, halved or not
pub halved_range : (m : ℕ) (b : Bool) → 2 ^ 30 ≤ m → m < 2 ^ 31 → (2 ^ 29 ≤ cond b (m / 2) m) × (cond b (m / 2) m < 2 ^ 31)
halved_range m true h l = (omega arith, omega arith)
halved_range m false h l = (omega arith, omega arith)

module _ (M : ℕ) (low : 2 ^ 29 ≤ M) (high : M < 2 ^ 31) where
  place : ℕ
  place = M / 33554432 - 16

  place_lt : place < 48
  unfolding place
  place_lt = omega arith

  next : M < (place + 17) * 33554432
  unfolding place
  next = omega arith

  -- the line is no higher than its left end
  line_high : table_line inverses 16 M ≤ entry place * 65536
  unfolding table_line place
  line_high =
      line_le (entry (M / 33554432 - 16)) (entry (M / 33554432 - 16)) (entry (M / 33554432 - 16 + 1)) M (le_refl _)
      (falls (M / 33554432 - 16) (omega (arith, place_lt)))

  -- where r times p is at most the line, and m at most d times what M is below
  square_le : (r p m d : ℕ) → r * p ≤ table_line inverses 16 M → m ≤ d * ((place + 17) * 2 ^ 25) → r * p * (r * p) * m ≤ d * (17 * 2 ^ 87)
  square_le r p m d h l =
      let u = le_trans h line_high in
      let t = entry_square place (omega (arith, place_lt)) in
      let s : r * p * (r * p) ≤ 2 ^ 32 * (entry place * entry place) = omega (arith, mul-le-mul u u) in
      let e : 2 ^ 32 * (entry place * entry place) * (d * ((place + 17) * 2 ^ 25)) ≡ d * (2 ^ 57 * (entry place * entry place * (place + 17))) = omega arith in
      le_trans (mul-le-mul s l) (le_trans (le_of_eq e) (mul-le-mul_left d (omega arith)))

-- ---- the root of a positive number n
-- the powers of two that the root leaves out, twice, and that of the normalising shift s
powers : (h s : ℕ) → 2 ^ (h + 1) * 2 ^ (h + 1) * 2 ^ s ≡ 2 ^ (h + 1 + (h + 1) + s)
powers h s = sym (pow-add 2 (h + 1 + (h + 1)) s ∙ ap (λ (x : ℕ). x * 2 ^ s) (pow-add 2 (h + 1) (h + 1)))

shifts_even : (s : ℕ) → s ≤ 30 → (30 - s) % 2 ≡ 0 → (30 - s) / 2 + 1 + ((30 - s) / 2 + 1) + s ≡ 32
shifts_even s h e = omega arith

shifts_odd : (s : ℕ) → s ≤ 30 → ((30 - s) % 2 ≡ 0 → ⊥) → (30 - s) / 2 + 1 + ((30 - s) / 2 + 1) + s ≡ 31
shifts_odd s h e = omega (arith, e)

gather : (r p n q c B : ℕ) → 0 < c → p * p * q ≡ c → r * p * (r * p) * (n * q) ≤ c * B → r * r * n ≤ B
gather r p n q c B h e l =
    let u : r * p * (r * p) * (n * q) ≡ p * p * q * (r * r * n) = omega arith in
    let t : r * p * (r * p) * (n * q) ≡ c * (r * r * n) = u ∙ ap (λ (i : ℕ). i * (r * r * n)) e in
    le_of_mul-le-mul_left (rw t at l) h

module _ (n : ℕ) (z : 0 < n) (f : n < 2 ^ 31) where
  abbrev half : ℕ
  half = exponent n / 2

  abbrev root : ℕ
  root = root_in inverses n

  -- by whether the exponent is even
  module _ (even : Bool) (e : eqb (exponent n % 2) 0 ≡ even) where
    abbrev M : ℕ
    M = cond even (normal n / 2) (normal n)

    range : (2 ^ 29 ≤ M) × (M < 2 ^ 31)
    range = halved_range (normal n) even (normal_range n z f).0 (normal_range n z f).1

    root_le : root * 2 ^ (half + 1) ≤ table_line inverses 16 M
    unfolding root_in
    root_le = rw e (div-mul-le_self (table_line inverses 16 (cond even (normal n / 2) (normal n))) (2 ^ (half + 1)))

    small : root < 2 ^ 30
    small =
        let q = line_high M range.0 range.1 in
        let t = entry_le (place M range.0 range.1) (omega (arith, place_lt M range.0 range.1)) in
        let d : 2 ^ (half + 1) ≡ 2 * 2 ^ half = pow-add 2 half 1 ∙ omega arith in
        let l : root * 2 ≤ root * 2 ^ (half + 1) = mul-le-mul_left root (omega (arith, d, pow_pos half)) in
        omega (arith, l, root_le, q, t)

  square : (even : Bool) → eqb (exponent n % 2) 0 ≡ even → root * root * n ≤ 17 * 2 ^ 56
  square true e =
      let R = range true e in
      let b = square_le (normal n / 2) R.0 R.1 root (2 ^ (half + 1)) (normal n) 2 (root_le true e) (omega (arith, next (normal n / 2) R.0 R.1)) in
      let x : half + 1 + (half + 1) + norm_l (pos n) ≡ 32 = shifts_even (norm_l (pos n)) (norm_at_most n z f) (eqb-true (exponent n % 2) 0 e) in
      gather root (2 ^ (half + 1)) n (2 ^ norm_l (pos n)) (2 ^ 32) (17 * 2 ^ 56) (omega arith) (powers half (norm_l (pos n)) ∙ ap (λ (i : ℕ). 2 ^ i) x) (le_trans b (omega arith))
  square false e =
      let R = range false e in
      let b = square_le (normal n) R.0 R.1 root (2 ^ (half + 1)) (normal n) 1 (root_le false e) (omega (arith, next (normal n) R.0 R.1)) in
      let x : half + 1 + (half + 1) + norm_l (pos n) ≡ 31 = shifts_odd (norm_l (pos n)) (norm_at_most n z f) (eqb-false (exponent n % 2) 0 e) in
      gather root (2 ^ (half + 1)) n (2 ^ norm_l (pos n)) (2 ^ 31) (17 * 2 ^ 56) (omega arith) (powers half (norm_l (pos n)) ∙ ap (λ (i : ℕ). 2 ^ i) x) (le_trans b (omega arith))

-- ---- Inv_sqrt of a number e that is not negative
pub record Rooted (e : ℕ) : Type 0 where
  pub root : ℕ
  pub is : Inv_sqrt (pos e) ≡ pos root
  pub small : root < 2 ^ 30
  pub square : root * root * e ≤ 17 * 2 ^ 56

pub rooted : (e : ℕ) → e < 2 ^ 31 → Rooted e
unfolding Inv_sqrt Inv_sqrt_in
rooted zero h = record { root = 1073741823; is = refl; small = omega arith; square = omega arith }
rooted (suc n) h =
    let even : Bool = eqb (exponent (suc n) % 2) 0 in
    record { root = root_in inverses (suc n); is = refl; small = small (suc n) (omega arith) h even refl; square = square (suc n) (omega arith) h even refl }
