-- The impulse scaled: the doubled product, shifted by 9 places and rounded, is the product shifted to the right by 6 and rounded, clipped once.
use mathlib.Core.Path.{◌≡◌, refl, ap, ◌∙◌}
use mathlib.Core.Bool.{Bool, true, false}
use Prim.Native.Nat.{ℕ, suc, ◌+◌, ◌-◌, ◌*◌, ◌/◌, ◌^◌, ◌<◌, ◌≤◌, min}
use native.Mathlib.Omega.{arith}
use lib.Dec.{ltb}
use lib.IntN.{ℤ, pos, negsuc, nat_abs, sub_ℕ, ◌+ℤ◌, ◌*ℤ◌}
use lib.Signed.{shr_z}
use borrow.Author.Tests.{lt-ltb, le-ltb, ltb-true, ltb-false}
use Rattle.fixed.specs.Clip.{clip}
use Rattle.fixed.specs.Operators.{L_add, L_mult, shift_at, extract_h, round}
use Rattle.fixed.proofs.Signs.{neg_pos}

high : (n : ℕ) → n ≤ 2 ^ 30 → min (min (min (2 * n) 2147483647 * 512) 2147483647 + 32768) 2147483647 / 65536 ≡ min ((n + 32) / 64) 32767
high n h = omega arith

low_small : (q : ℕ) → q ≤ 32767 → shr_z (clip 31 (sub_ℕ 32768 (suc q))) 65536 ≡ pos 0
low_small q h = rw (le-ltb 32768 (suc q) (omega arith)) (ap pos (omega arith))

low_great : (q : ℕ) → 32768 ≤ q → q ≤ 2147483647 → shr_z (clip 31 (sub_ℕ 32768 (suc q))) 65536 ≡ negsuc ((q - 32768) / 65536)
low_great q h l = rw (lt-ltb 32768 (suc q) (omega arith)) (ap negsuc (omega arith))

module _ (n : ℕ) (h : n < 2 ^ 30) where
  -- the long before the rounding
  q : ℕ
  q = min (suc (min (2 * n + 1) 2147483647) * 512 - 1) 2147483647

  long : clip 31 (clip 31 (pos 2 *ℤ negsuc n) *ℤ pos 512) ≡ negsuc q
  unfolding q
  long =
      ap (λ (z : ℤ). clip 31 (clip 31 z *ℤ pos 512)) (neg_pos (2 * suc n) (2 * n + 1) (omega arith))
      ∙ ap (clip 31) (neg_pos (suc (min (2 * n + 1) 2147483647) * 512) (suc (min (2 * n + 1) 2147483647) * 512 - 1) (omega arith))

  below : shr_z (clip 31 (negsuc q +ℤ pos 32768)) 65536 ≡ clip 15 (shr_z (negsuc n +ℤ pos 32) 64)
  unfolding q
  below = go (ltb 32 (suc n)) refl
    where
      go : (t : Bool) → ltb 32 (suc n) ≡ t → shr_z (clip 31 (sub_ℕ 32768 (suc q))) 65536 ≡ clip 15 (shr_z (sub_ℕ 32 (suc n)) 64)
      go true e =
          let l = ltb-true 32 (suc n) e in
          low_great q (omega arith) (omega arith) ∙ rw (lt-ltb 32 (suc n) l) (ap negsuc (omega arith))
      go false e =
          let l = ltb-false 32 (suc n) e in
          low_small q (omega arith) ∙ rw (le-ltb 32 (suc n) l) (ap pos (omega arith))

pub scaled_plain : (a b : ℤ) → nat_abs (a *ℤ b) ≤ 2 ^ 30 → round (shift_at 31 (L_mult a b) (pos 9)) ≡ clip 15 (shr_z (a *ℤ b +ℤ pos 32) 64)
unfolding round extract_h L_add shift_at L_mult
scaled_plain a b h = go (a *ℤ b) h
  where
    go : (z : ℤ) → nat_abs z ≤ 2 ^ 30 → shr_z (clip 31 (clip 31 (clip 31 (pos 2 *ℤ z) *ℤ pos 512) +ℤ pos 32768)) 65536 ≡ clip 15 (shr_z (z +ℤ pos 32) 64)
    go (pos n) l = ap pos (high n l)
    go (negsuc n) l = ap (λ (z : ℤ). shr_z (clip 31 (z +ℤ pos 32768)) 65536) (long n (omega arith)) ∙ below n (omega arith)
