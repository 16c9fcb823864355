-- Mpy_32 of a long and of a number below 2 ^ 30 that is not negative: no farther from 0 than their product by 2 ^ 31, and 7 more.
use mathlib.Core.Path.{◌≡◌, refl, sym, ap, ◌∙◌}
use Prim.Native.Nat.{ℕ, zero, suc, ◌+◌, ◌-◌, ◌*◌, ◌/◌, ◌%◌, ◌^◌, ◌<◌, ◌≤◌}
use native.Mathlib.Nat.{mul-le-mul, mul-le-mul_right}
use native.Mathlib.Omega.{arith}
use lib.IntN.{ℤ, pos, negsuc, neg_ℤ, nat_abs, ◌+ℤ◌, ◌*ℤ◌, *ℤ-one, one, neg_ℤ-+ℤ}
use lib.Signed.{mag, shr_z}
use Rattle.fixed.specs.Clip.{clip}
use Rattle.fixed.specs.Operators.{L_add, L_mult, L_mac, mult, extract_h, low_half, Mpy_32}
use Rattle.fixed.proofs.Bounds.{abs_neg, abs_add}
use Rattle.fixed.proofs.Clips.{clip_id, abs_clip}
use Rattle.fixed.proofs.Signs.{low_rest, mag_neg, double_neg, sub_le, sub_above}

-- ---- numbers that are not positive
abbrev neg : ℕ → ℤ
neg m = neg_ℤ (pos m)

clip_neg : (k m : ℕ) → m ≤ 2 ^ k → 0 < 2 ^ k → clip k (neg m) ≡ neg m
clip_neg k m h p = clip_id k (neg m) (omega (arith, mag_neg m))

floor_neg : (m : ℕ) → shr_z (neg m) 32768 ≡ neg ((m + 32767) / 32768)
floor_neg zero = refl
floor_neg (suc k) = let e : (suc k + 32767) / 32768 ≡ suc (k / 32768) = omega arith in rw e

add_neg : (a b : ℕ) → neg a +ℤ neg b ≡ neg (a + b)
add_neg a b = sym (neg_ℤ-+ℤ (pos a) (pos b))

add_pos : (a b : ℕ) → b ≤ a → neg a +ℤ pos b ≡ neg (a - b)
add_pos zero zero h = refl
add_pos zero (suc b) h = absurd (omega arith)
add_pos (suc a) b h = go (suc a - b) refl
  where
    go : (d : ℕ) → suc a - b ≡ d → negsuc a +ℤ pos b ≡ neg d
    go zero e = sub_le b (suc a) (omega arith) ∙ ap pos (omega arith)
    go (suc d) e = sub_above b (suc a) (omega arith) ∙ ap negsuc (omega arith)

-- ---- the halves of n, and of -(n + 1)
high_pos : (n : ℕ) → extract_h (pos n) ≡ pos (n / 65536)
unfolding extract_h
high_pos n = refl

low_pos : (n : ℕ) → low_half (pos n) ≡ pos (n / 2 % 32768)
unfolding low_half extract_h
low_pos n = low_rest (pos n)

high_neg : (n : ℕ) → extract_h (negsuc n) ≡ negsuc (n / 65536)
unfolding extract_h
high_neg n = refl

low_neg : (n : ℕ) → low_half (negsuc n) ≡ pos (32767 - n / 2 % 32768)
unfolding low_half extract_h
low_neg n = low_rest (negsuc n)

-- ---- the sum of Mpy_32, by its three products
-- none is negative: a clip takes away
sum_pos : (a b c : ℕ) →
    nat_abs (clip 31 (clip 31 (clip 31 (pos (2 * a)) +ℤ clip 31 (pos 2 *ℤ (clip 15 (pos b) *ℤ pos 1))) +ℤ clip 31 (pos 2 *ℤ (clip 15 (pos c) *ℤ pos 1)))) ≤ 2 * a + 2 * b + 2 * c
sum_pos a b c =
    let x : ℤ = clip 31 (pos 2 *ℤ (clip 15 (pos b) *ℤ pos 1)) in
    let y : ℤ = clip 31 (pos 2 *ℤ (clip 15 (pos c) *ℤ pos 1)) in
    let u : ℤ = clip 31 (clip 31 (pos (2 * a)) +ℤ x) in
    omega (arith, abs_clip 31 (u +ℤ y), abs_add u y, abs_clip 31 (clip 31 (pos (2 * a)) +ℤ x), abs_add (clip 31 (pos (2 * a))) x, abs_clip 31 (pos (2 * a)), term_le b, term_le c)
  where
    term_le : (b : ℕ) → nat_abs (clip 31 (pos 2 *ℤ (clip 15 (pos b) *ℤ pos 1))) ≤ 2 * b
    term_le b = omega arith

-- a product of the halves that is not positive
term_neg : (b : ℕ) → b ≤ 32768 * 32767 → clip 31 (pos 2 *ℤ (clip 15 (shr_z (neg b) 32768) *ℤ pos 1)) ≡ neg (2 * ((b + 32767) / 32768))
unfolding one
term_neg b h =
    let f : ℕ = (b + 32767) / 32768 in
    ap (λ (z : ℤ). clip 31 (pos 2 *ℤ (clip 15 z *ℤ pos 1))) (floor_neg b)
    ∙ ap (λ (z : ℤ). clip 31 (pos 2 *ℤ (z *ℤ pos 1))) (clip_neg 15 f (omega arith) (omega arith))
    ∙ ap (λ (z : ℤ). clip 31 (pos 2 *ℤ z)) (*ℤ-one (neg f))
    ∙ ap (clip 31) (double_neg f) ∙ clip_neg 31 (2 * f) (omega arith) (omega arith)

-- two are not positive, the third is smaller: nothing is clipped
sum_neg : (a b c : ℕ) → a ≤ 32768 * 16383 → b ≤ 32768 * 32767 → c ≤ 32767 * 16383 → c / 32768 ≤ a + (b + 32767) / 32768 →
    clip 31 (clip 31 (clip 31 (pos 2 *ℤ neg a) +ℤ clip 31 (pos 2 *ℤ (clip 15 (shr_z (neg b) 32768) *ℤ pos 1))) +ℤ clip 31 (pos 2 *ℤ (clip 15 (pos (c / 32768)) *ℤ pos 1)))
    ≡ neg (2 * a + 2 * ((b + 32767) / 32768) - 2 * (c / 32768))
sum_neg a b c la lb lc l =
    let f : ℕ = (b + 32767) / 32768 in
    let g : ℕ = c / 32768 in
    let ea : clip 31 (pos 2 *ℤ neg a) ≡ neg (2 * a) = ap (clip 31) (double_neg a) ∙ clip_neg 31 (2 * a) (omega arith) (omega arith) in
    let ec : clip 31 (pos 2 *ℤ (clip 15 (pos g) *ℤ pos 1)) ≡ pos (2 * g) = ap pos (omega arith) in
    rw (ea, term_neg b lb, ec, add_neg (2 * a) (2 * f), clip_neg 31 (2 * a + 2 * f) (omega arith) (omega arith), add_pos (2 * a + 2 * f) (2 * g) (omega arith))
    (clip_neg 31 (2 * a + 2 * f - 2 * g) (omega arith) (omega arith))

-- ---- n below 2 ^ 31 and r below 2 ^ 30, by their halves
module _ (n r : ℕ) (h : n < 2 ^ 31) (g : r < 2 ^ 30) where
  hn : ℕ
  hn = n / 65536

  ln : ℕ
  ln = n / 2 % 32768

  hr : ℕ
  hr = r / 65536

  lr : ℕ
  lr = r / 2 % 32768

  hn_le : hn ≤ 32767
  unfolding hn
  hn_le = omega arith

  ln_le : ln ≤ 32767
  unfolding ln
  ln_le = omega arith

  hr_le : hr ≤ 16383
  unfolding hr
  hr_le = omega arith

  lr_le : lr ≤ 32767
  unfolding lr
  lr_le = omega arith

  -- three of the four products of the halves are no more than n r
  below : 2 ^ 32 * (hn * hr) + 2 ^ 17 * (hn * lr) + 2 ^ 17 * (ln * hr) ≤ n * r
  unfolding hn ln hr lr
  below = three (n / 65536) (n / 2 % 32768) (r / 65536) (r / 2 % 32768) (omega arith) (omega arith)
    where
      three : (a b c d : ℕ) → a * 65536 + 2 * b ≤ n → c * 65536 + 2 * d ≤ r → 2 ^ 32 * (a * c) + 2 ^ 17 * (a * d) + 2 ^ 17 * (b * c) ≤ n * r
      three a b c d p q = omega (arith, mul-le-mul p q)

  -- Mpy_32 (n, r)
  pos_le : nat_abs (Mpy_32 (pos n) (pos r)) ≤ 2 * (hn * hr) + 2 * (hn * lr / 32768) + 2 * (ln * hr / 32768)
  unfolding Mpy_32 L_mac L_add L_mult mult hn ln hr lr
  pos_le =
      rw (high_pos n, low_pos n, high_pos r, low_pos r)
      (sum_pos (n / 65536 * (r / 65536)) (n / 65536 * (r / 2 % 32768) / 32768) (n / 2 % 32768 * (r / 65536) / 32768))

  -- Mpy_32 (-(n + 1), r) is -(down - up)
  down : ℕ
  down = 2 * (suc hn * hr) + 2 * ((suc hn * lr + 32767) / 32768)

  up : ℕ
  up = 2 * ((32767 - ln) * hr / 32768)

  neg_is : Mpy_32 (negsuc n) (pos r) ≡ neg (down - up)
  unfolding Mpy_32 L_mac L_add L_mult mult down up hn ln hr lr one
  neg_is =
      let a : ℕ = suc (n / 65536) * (r / 65536) in
      let b : ℕ = suc (n / 65536) * (r / 2 % 32768) in
      let c : ℕ = (32767 - n / 2 % 32768) * (r / 65536) in
      let la : a ≤ 32768 * 16383 = mul-le-mul {n₁ = suc hn} {m₁ = hr} {n₂ = 32768} {m₂ = 16383} (omega (arith, hn_le)) hr_le in
      let lb : b ≤ 32768 * 32767 = mul-le-mul {n₁ = suc hn} {m₁ = lr} {n₂ = 32768} {m₂ = 32767} (omega (arith, hn_le)) lr_le in
      let lc : c ≤ 32767 * (r / 65536) = mul-le-mul_right hr (omega arith) in
      rw (high_neg n, low_neg n, high_pos r, low_pos r) (sum_neg a b c (omega arith) (omega arith) (omega (arith, hr_le)) (omega (arith, lc)))

  -- what the high half has too much the low half gives back
  neg_le : (down - up) * 2 ^ 31 ≤ n * r + 7 * 2 ^ 31
  unfolding down up
  neg_le = omega (arith, below, rest ln hr ln_le, hr_le, lr_le)
    where
      rest : (l k : ℕ) → l ≤ 32767 → (32767 - l) * k + l * k ≡ 32767 * k
      rest l k p = let e : 32767 - l + l ≡ 32767 = omega arith in sym (distribute (32767 - l) l k) ∙ ap (λ (m : ℕ). m * k) e
        where
          distribute : (a b k : ℕ) → (a + b) * k ≡ a * k + b * k
          distribute a b k = omega arith

-- both signs
pub product_le : (c : ℤ) (r : ℕ) → mag c < 2 ^ 31 → r < 2 ^ 30 → nat_abs (Mpy_32 c (pos r)) * 2 ^ 31 ≤ nat_abs c * r + 7 * 2 ^ 31
product_le (pos n) r h g = omega (arith, pos_le n r h g, below n r h g)
product_le (negsuc n) r h g = rw (neg_is n r h g, abs_neg (pos (down n r h g - up n r h g))) (omega (arith, neg_le n r h g))
