-- The product of a word by 32766 or -32767, which two signs of 32767 give, by sums and shifts of words.
use mathlib.Core.Path.{◌≡◌, refl, sym, ap, ◌∙◌}
use mathlib.Core.Bool.{Bool, true, false}
use mathlib.Core.Logic.{◌⊎◌, inl, inr, ⊎_elim}
use Prim.Native.Nat.{ℕ, zero, suc, ◌+◌, ◌-◌, ◌*◌, ◌/◌, ◌^◌, ◌<◌, ◌≤◌}
use native.Mathlib.Omega.{arith}
use lib.Dec.{ltb}
use lib.IntN.{ℤ, pos, negsuc, nat_abs, sub_ℕ, ◌+ℤ◌, ◌-ℤ◌, ◌*ℤ◌, +ℤ_idr}
use lib.Signed.{mag, shr_z}
use borrow.Author.Tests.{lt-ltb, le-ltb, ltb-true, ltb-false}
use Rattle.fixed.specs.Clip.{clip}
use Rattle.fixed.specs.Operators.{mult}
use Rattle.fixed.proofs.Clips.{clip_fits}
use Rattle.fixed.proofs.Signs.{neg_pos, pos_sub}

-- differences of natural numbers
under : (a b : ℕ) → a < b → sub_ℕ a b ≡ negsuc (b - suc a)
under a b h = rw (lt-ltb a b h)

over : (a b : ℕ) → b ≤ a → sub_ℕ a b ≡ pos (a - b)
over a b h = rw (le-ltb a b h)

-- half of a number, rounded up
pub up : ℤ → ℤ
up (pos n) = pos (n - n / 2)
up (negsuc zero) = pos 0
up (negsuc (suc m)) = negsuc (m - suc m / 2)

pub up_is : (v : ℤ) → v -ℤ shr_z v 2 ≡ up v
unfolding up
up_is (pos n) = pos_sub n (n / 2) (omega arith)
up_is (negsuc zero) = refl
up_is (negsuc (suc m)) = under (suc (suc m / 2)) (suc (suc m)) (omega arith) ∙ ap negsuc (omega arith)

pub up_small : (v : ℤ) → mag v < 2 ^ 15 → nat_abs (up v) ≤ 16384
unfolding up
up_small (pos n) h = omega arith
up_small (negsuc zero) h = omega arith
up_small (negsuc (suc m)) h = omega arith

-- by 32766
pub same_is : (v : ℤ) → mag v < 2 ^ 15 → mult v (pos 32766) ≡ v -ℤ shr_z (up v +ℤ pos 8191) 8192
unfolding mult up
same_is (pos n) h = ap pos (omega arith) ∙ sym (pos_sub n ((n - n / 2 + 8191) / 8192) (omega arith))
same_is (negsuc zero) h = refl
same_is (negsuc (suc m)) h = product ∙ go (ltb 8191 (suc (m - suc m / 2))) refl
  where
    product : mult (negsuc (suc m)) (pos 32766) ≡ negsuc ((suc (suc m) * 32766 - 1) / 32768)
    product =
        ap (λ (z : ℤ). clip 15 (shr_z z 32768)) (neg_pos (suc (suc m) * 32766) (suc (suc m) * 32766 - 1) (omega arith))
        ∙ ap negsuc (omega arith)

    go : (t : Bool) → ltb 8191 (suc (m - suc m / 2)) ≡ t →
        negsuc ((suc (suc m) * 32766 - 1) / 32768) ≡ negsuc (suc m) -ℤ shr_z (sub_ℕ 8191 (suc (m - suc m / 2))) 8192
    go true q =
        let l = ltb-true 8191 (suc (m - suc m / 2)) q in
        rw (under 8191 (suc (m - suc m / 2)) l)
        (ap negsuc (omega arith) ∙ sym (under (suc ((suc (m - suc m / 2) - 8192) / 8192)) (suc (suc m)) (omega arith)))
    go false q =
        let l = ltb-false 8191 (suc (m - suc m / 2)) q in
        let e : (8191 - suc (m - suc m / 2)) / 8192 ≡ 0 = omega arith in
        rw (over 8191 (suc (m - suc m / 2)) l, e) (ap negsuc (omega arith) ∙ sym (+ℤ_idr (negsuc (suc m))))

-- by -32767
pub other_is : (v : ℤ) → mag v < 2 ^ 15 → mult v (negsuc 32766) ≡ shr_z v 32768 -ℤ v
unfolding mult
other_is (pos zero) h = refl
other_is (pos (suc m)) h =
    let e : suc m / 32768 ≡ 0 = omega arith in
    rw e (ap (λ (z : ℤ). clip 15 (shr_z z 32768)) (neg_pos (suc m * 32767) (suc m * 32767 - 1) (omega arith)) ∙ ap negsuc (omega arith) ∙ sym (under 0 (suc m) (omega arith)))
other_is (negsuc n) h =
    let e : n / 32768 ≡ 0 = omega arith in
    rw e (ap pos (omega arith) ∙ sym (over (suc n) 1 (omega arith)))

-- ---- the product of two signs
full : (a : ℤ) → nat_abs a ≡ 32767 → (a ≡ pos 32767) ⊎ (a ≡ negsuc 32766)
full (pos n) e = inl (ap pos e)
full (negsuc n) e = inr (ap negsuc (omega arith))

pub same_sign : (a b : ℤ) → nat_abs a ≡ 32767 → a ≡ b → mult a b ≡ pos 32766
unfolding mult
same_sign a b e q = ⊎_elim (λ (x : a ≡ pos 32767). rw (← q, x)) (λ (x : a ≡ negsuc 32766). rw (← q, x)) (full a e)

pub other_sign : (a b : ℤ) → nat_abs a ≡ 32767 → nat_abs b ≡ 32767 → (a ≡ b → ⊥) → mult a b ≡ negsuc 32766
unfolding mult
other_sign a b e f n =
    ⊎_elim
    (λ (x : a ≡ pos 32767). ⊎_elim (λ (y : b ≡ pos 32767). absurd (n (x ∙ sym y))) (λ (y : b ≡ negsuc 32766). rw (x, y)) (full b f))
    (λ (x : a ≡ negsuc 32766). ⊎_elim (λ (y : b ≡ pos 32767). rw (x, y)) (λ (y : b ≡ negsuc 32766). absurd (n (x ∙ sym y))) (full b f))
    (full a e)

-- such a product is a word
pub mult_fits : (a b : ℤ) → mag (mult a b) < 2 ^ 15
unfolding mult
mult_fits a b = clip_fits 15 (shr_z (a *ℤ b) 32768)
