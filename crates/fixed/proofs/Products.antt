-- A long shifted to the left and its high word taken is the long shifted to the right and clipped once; and so a doubled product.
use mathlib.Core.Path.{◌≡◌, sym, ap, subst, ◌∙◌}
use mathlib.Core.Bool.{Bool, true, false}
use Prim.Native.Nat.{ℕ, suc, ◌+◌, ◌-◌, ◌*◌, ◌/◌, ◌^◌, ◌≤◌, min}
use native.Mathlib.Nat.{mul-div-mul_right, div-div-eq-div-mul, mul_comm}
use native.Mathlib.Omega.{arith}
use lib.Arith.{digits_div}
use lib.Dec.{leb}
use lib.IntN.{ℤ, pos, negsuc, ◌*ℤ◌, *ℤ_comm}
use lib.Pow.{pow-add, suc_ones}
use lib.Signed.{shr_z}
use borrow.Author.Tests.{leb-true, leb-false}
use Rattle.fixed.specs.Clip.{clip}
use Rattle.fixed.specs.Operators.{L_mult, extract_h, shift_at}
use Rattle.fixed.proofs.Signs.{neg_pos}

-- a minimum taken before a product and a sum changes nothing under the same minimum
min_scaled : (a m p r : ℕ) → min (min a m * suc p + r) m ≡ min (a * suc p + r) m
min_scaled a m p r = go (leb a m) mathlib.Core.Path.refl
  where
    go : (t : Bool) → leb a m ≡ t → min (min a m * suc p + r) m ≡ min (a * suc p + r) m
    go true e = let h : min a m ≡ a = omega (arith, leb-true a m e) in rw h
    go false e = let h : min a m ≡ m = omega (arith, leb-false a m e) in let l = leb-false a m e in rw h (omega arith)

-- and so a clip before a product
clip_scaled : (k p : ℕ) (z : ℤ) → clip k (clip k z *ℤ pos (suc p)) ≡ clip k (z *ℤ pos (suc p))
clip_scaled k p (pos a) = ap pos (omega (arith, min_scaled a (2 ^ k - 1) p 0))
clip_scaled k p (negsuc a) =
    ap (clip k) (neg_pos (suc (min a (2 ^ k - 1)) * suc p) (min a (2 ^ k - 1) * suc p + p) (omega arith))
    ∙ ap negsuc (min_scaled a (2 ^ k - 1) p p)
    ∙ ap (clip k) (sym (neg_pos (suc a * suc p) (a * suc p + p) (omega arith)))

-- the high word of a clipped number
high_clip : (z : ℤ) → shr_z (clip 31 z) 65536 ≡ clip 15 (shr_z z 65536)
high_clip (pos a) = ap pos (omega arith)
high_clip (negsuc a) = ap negsuc (omega arith)

-- a factor leaves a quotient where the divisor has it too
shr_scaled : (z : ℤ) (q p : ℕ) → shr_z (z *ℤ pos (suc p)) (q * suc p) ≡ shr_z z q
shr_scaled (pos a) q p = ap pos (mul-div-mul_right a q (omega arith))
shr_scaled (negsuc a) q p =
    ap (λ (z : ℤ). shr_z z (q * suc p)) (neg_pos (suc a * suc p) (a * suc p + p) (omega arith))
    ∙ ap negsuc
    (ap (λ (n : ℕ). (a * suc p + p) / n) (mul_comm q (suc p))
    ∙ sym (div-div-eq-div-mul (a * suc p + p) (suc p) q)
    ∙ ap (λ (n : ℕ). n / q) (digits_div a {m = suc p} {r = p} (omega arith)))

-- a number shifted to the left and its high word taken
pub high_shifted : (z : ℤ) (n : ℕ) → n ≤ 16 → extract_h (shift_at 31 z (pos n)) ≡ clip 15 (shr_z z (2 ^ (16 - n)))
unfolding extract_h shift_at
high_shifted z n h =
    let e : 65536 ≡ 2 ^ (16 - n) * 2 ^ n = ap (λ (k : ℕ). 2 ^ k) {x = 16} {y = 16 - n + n} (omega arith) ∙ pow-add 2 (16 - n) n in
    high_clip (z *ℤ pos (2 ^ n))
    ∙ ap (clip 15)
    (ap (shr_z (z *ℤ pos (2 ^ n))) e
    ∙ subst (λ (m : ℕ). shr_z (z *ℤ pos m) (2 ^ (16 - n) * m) ≡ shr_z z (2 ^ (16 - n))) (suc_ones n) (shr_scaled z (2 ^ (16 - n)) (2 ^ n - 1)))

-- and by 16 places it is clipped alone
pub high_whole : (z : ℤ) → extract_h (shift_at 31 z (pos 16)) ≡ clip 15 z
high_whole z = high_shifted z 16 (omega arith) ∙ ap (clip 15) (by_one z)
  where
    by_one : (z : ℤ) → shr_z z 1 ≡ z
    by_one (pos a) = ap pos (omega arith)
    by_one (negsuc a) = ap negsuc (omega arith)

pub product_high : (a b : ℤ) (n : ℕ) → n ≤ 15 → extract_h (shift_at 31 (L_mult a b) (pos n)) ≡ clip 15 (shr_z (a *ℤ b) (2 ^ (15 - n)))
unfolding extract_h shift_at L_mult
product_high a b n h =
    let z : ℤ = a *ℤ b in
    let e : 16 - n ≡ suc (15 - n) = omega arith in
    ap extract_h
    (subst (λ (m : ℕ). clip 31 (clip 31 (pos 2 *ℤ z) *ℤ pos m) ≡ clip 31 (pos 2 *ℤ z *ℤ pos m)) (suc_ones n) (clip_scaled 31 (2 ^ n - 1) (pos 2 *ℤ z)))
    ∙ high_shifted (pos 2 *ℤ z) n (omega arith)
    ∙ ap (λ (k : ℕ). clip 15 (shr_z (pos 2 *ℤ z) (2 ^ k))) e
    ∙ ap (λ (y : ℤ). clip 15 (shr_z y (2 ^ suc (15 - n)))) (*ℤ_comm (pos 2) z)
    ∙ ap (clip 15) (ap (shr_z (z *ℤ pos 2)) (omega arith) ∙ shr_scaled z (2 ^ (15 - n)) 1)
