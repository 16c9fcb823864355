-- Two doubled products of words, one of which is taken from the other with clips, tell by the sign what the products tell as they are.
use mathlib.Core.Path.{◌≡◌, refl, sym, ◌∙◌}
use mathlib.Core.Bool.{Bool, true, false}
use Prim.Native.Nat.{ℕ, zero, suc, ◌+◌, ◌-◌, ◌*◌, ◌^◌, ◌≤◌, min}
use native.Mathlib.Omega.{arith}
use native.Mathlib.Nat.{mul-le-mul}
use lib.Dec.{ltb}
use lib.IntN.{ℤ, pos, negsuc, nat_abs, sub_ℕ, ◌-ℤ◌, ◌*ℤ◌}
use lib.Signed.{lt_z}
use mir.Syntax.{w16}
use mir.Val.{SFits}
use borrow.Author.Tests.{ltb-true, ltb-false, le-ltb, lt-ltb}
use Rattle.fixed.specs.Clip.{clip}
use Rattle.fixed.specs.Operators.{L_sub, L_mult, L_msu}
use Rattle.fixed.proofs.Bounds.{abs_mul, abs_fits}
use Rattle.fixed.proofs.Signs.{neg_pos, pos_sub, sub_above, sub_le}
use Rattle.codebook_steps.specs.Steps.{exceeds}

-- a test that comes out as another one
same : (a b c d : ℕ) (t : Bool) → ltb c d ≡ t → (suc c ≤ d → suc a ≤ b) → (d ≤ c → b ≤ a) → ltb a b ≡ ltb c d
same a b c d true e p q = lt-ltb a b (p (ltb-true c d e)) ∙ sym e
same a b c d false e p q = le-ltb a b (q (ltb-false c d e)) ∙ sym e

-- a clip keeps the sign
sign_clip : (z : ℤ) → lt_z (pos 0) (clip 31 z) ≡ lt_z (pos 0) z
sign_clip (pos n) = same 0 (min n 2147483647) 0 n (ltb 0 n) refl (λ h. omega arith) (λ h. omega arith)
sign_clip (negsuc n) = refl

-- a difference is positive where the second number is below the first
sign_sub : (a b : ℤ) → lt_z (pos 0) (a -ℤ b) ≡ lt_z b a
sign_sub (pos a) (pos b) = go (ltb b a) refl
  where
    go : (t : Bool) → ltb b a ≡ t → lt_z (pos 0) (pos a -ℤ pos b) ≡ ltb b a
    go true e =
        let l = ltb-true b a e in
        rw (pos_sub a b (omega arith)) (same 0 (a - b) b a true e (λ h. omega arith) (λ h. omega arith))
    go false e = le a b (ltb-false b a e) ∙ sym e
      where
        le : (a b : ℕ) → a ≤ b → lt_z (pos 0) (pos a -ℤ pos b) ≡ false
        le a b h = below (ltb a b) refl
          where
            below : (t : Bool) → ltb a b ≡ t → lt_z (pos 0) (pos a -ℤ pos b) ≡ false
            below true f = rw (sub_above a b (ltb-true a b f))
            below false f =
                let l = ltb-false a b f in
                rw (pos_sub a b l) (le-ltb 0 (a - b) (omega arith))
sign_sub (pos a) (negsuc b) = lt-ltb 0 (a + suc b) (omega arith)
sign_sub (negsuc a) (pos zero) = rw (lt-ltb 0 (suc a) (omega arith))
sign_sub (negsuc a) (pos (suc b)) = refl
sign_sub (negsuc a) (negsuc b) = go (ltb a b) refl
  where
    go : (t : Bool) → ltb a b ≡ t → lt_z (pos 0) (sub_ℕ (suc b) (suc a)) ≡ ltb a b
    go true e =
        let l = ltb-true a b e in
        rw (sub_le (suc b) (suc a) (omega arith)) (same 0 (suc b - suc a) a b true e (λ h. omega arith) (λ h. omega arith))
    go false e = under (ltb (suc b) (suc a)) refl
      where
        under : (t : Bool) → ltb (suc b) (suc a) ≡ t → lt_z (pos 0) (sub_ℕ (suc b) (suc a)) ≡ ltb a b
        under true f = rw f (sym e)
        under false f =
            let l = ltb-false a b e in
            let k = ltb-false (suc b) (suc a) f in
            rw (sub_le (suc b) (suc a) k) (le-ltb 0 (suc b - suc a) (omega arith) ∙ sym e)

-- doubled and clipped, numbers up to 2 ^ 30 keep their order
order : (q p : ℤ) → nat_abs q ≤ 2 ^ 30 → nat_abs p ≤ 2 ^ 30 → lt_z (clip 31 (pos 2 *ℤ q)) (clip 31 (pos 2 *ℤ p)) ≡ lt_z q p
order (pos q) (pos p) h g = same (min (2 * q) 2147483647) (min (2 * p) 2147483647) q p (ltb q p) refl (λ l. omega arith) (λ l. omega arith)
order (pos q) (negsuc p) h g = rw (neg_pos (2 * suc p) (2 * p + 1) (omega arith))
order (negsuc q) (pos p) h g = rw (neg_pos (2 * suc q) (2 * q + 1) (omega arith))
order (negsuc q) (negsuc p) h g =
    rw (neg_pos (2 * suc q) (2 * q + 1) (omega arith), neg_pos (2 * suc p) (2 * p + 1) (omega arith))
    (same (min (2 * p + 1) 2147483647) (min (2 * q + 1) 2147483647) p q (ltb p q) refl (λ l. omega arith) (λ l. omega arith))

product_small : {a b : ℤ} → SFits w16 a → SFits w16 b → nat_abs (a *ℤ b) ≤ 2 ^ 30
product_small {a} {b} f g = let l = mul-le-mul (abs_fits f) (abs_fits g) in omega (arith, abs_mul a b)

pub exceeds_plain : {square energy held_square held_energy : ℤ} → SFits w16 square → SFits w16 energy → SFits w16 held_square → SFits w16 held_energy →
    exceeds square energy held_square held_energy ≡ lt_z (held_square *ℤ energy) (held_energy *ℤ square)
unfolding L_msu L_sub L_mult
exceeds_plain {square} {energy} {held_square} {held_energy} f g h i =
    sign_clip (clip 31 (pos 2 *ℤ (held_energy *ℤ square)) -ℤ clip 31 (pos 2 *ℤ (held_square *ℤ energy)))
    ∙ sign_sub (clip 31 (pos 2 *ℤ (held_energy *ℤ square))) (clip 31 (pos 2 *ℤ (held_square *ℤ energy)))
    ∙ order (held_square *ℤ energy) (held_energy *ℤ square) (product_small h g) (product_small i f)
