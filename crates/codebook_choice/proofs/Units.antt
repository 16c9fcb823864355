-- Sums of words by small factors that no clip can reach: a range from -l to h goes through sums and products by natural numbers, and a sum of products
-- by powers of two is one product.
use mathlib.Core.Path.{◌≡◌, sym, ap, ◌∙◌}
use Prim.Native.Nat.{ℕ, zero, suc, ◌+◌, ◌-◌, ◌*◌, ◌^◌, ◌<◌, ◌≤◌}
use native.Mathlib.Nat.{mul-le-mul, le_refl}
use native.Mathlib.Omega.{arith}
use lib.Dec.{ltb}
use lib.IntN.{ℤ, pos, negsuc, neg_ℤ, ◌+ℤ◌, ◌*ℤ◌, +ℤ_assoc, +ℤ_comm, +ℤ_idl, *ℤ-zero, *ℤ_comm, suc_ℤ-*ℤ}
use lib.Signed.{mag, shr_z}
use mir.Syntax.{Width, w32}
use mir.Val.{SFits, to_z, of_z}
use mir.Facts.{to_z-of_z}
use Rattle.sums.proofs.Plain.{middle}
use Rattle.fixed.specs.Operators.{L_add, L_mult, L_mac, extract_h, round}
use Rattle.fixed.proofs.Bounds.{either}
use Rattle.fixed.proofs.Clips.{clip_id}
use Rattle.fixed.proofs.Signs.{neg_pos}

-- ---- products by natural numbers
scale_suc : (z : ℤ) (q : ℕ) → z *ℤ pos (suc q) ≡ z *ℤ pos q +ℤ z
scale_suc z q = *ℤ_comm z (pos (suc q)) ∙ suc_ℤ-*ℤ (pos q) z ∙ ap (λ (y : ℤ). y +ℤ z) (*ℤ_comm (pos q) z)

-- of a sum
pub scale_add : (q : ℕ) (a b : ℤ) → (a +ℤ b) *ℤ pos q ≡ a *ℤ pos q +ℤ b *ℤ pos q
scale_add zero a b = rw (*ℤ-zero (a +ℤ b), *ℤ-zero a, *ℤ-zero b)
scale_add (suc q) a b = rw (scale_suc (a +ℤ b) q, scale_suc a q, scale_suc b q, scale_add q a b) (middle (a *ℤ pos q) (b *ℤ pos q) a b)

scale_split : (z : ℤ) (j q : ℕ) → z *ℤ pos (q + j) ≡ z *ℤ pos q +ℤ z *ℤ pos j
scale_split z j zero =
    let e : 0 + j ≡ j = omega arith in
    rw (e, *ℤ-zero z) (sym (+ℤ_idl (z *ℤ pos j)))
scale_split z j (suc q) =
    ap (λ (n : ℕ). z *ℤ pos n) {x = suc q + j} {y = suc (q + j)} (omega arith) ∙ scale_suc z (q + j) ∙ ap (λ (y : ℤ). y +ℤ z) (scale_split z j q) ∙ +ℤ_assoc (z *ℤ pos q) (z *ℤ pos j) z
    ∙ ap (λ (y : ℤ). z *ℤ pos q +ℤ y) (+ℤ_comm (z *ℤ pos j) z)
    ∙ sym (+ℤ_assoc (z *ℤ pos q) z (z *ℤ pos j)) ∙ ap (λ (y : ℤ). y +ℤ z *ℤ pos j) (sym (scale_suc z q))

-- and of a product
pub scale_scale : (z : ℤ) (j q : ℕ) → z *ℤ pos j *ℤ pos q ≡ z *ℤ pos (q * j)
scale_scale z j zero =
    let e : 0 * j ≡ 0 = omega arith in
    *ℤ-zero (z *ℤ pos j) ∙ sym (ap (λ (n : ℕ). z *ℤ pos n) e ∙ *ℤ-zero z)
scale_scale z j (suc q) =
    let e : suc q * j ≡ q * j + j = omega arith in
    rw (scale_suc (z *ℤ pos j) q, scale_scale z j q, e, scale_split z j (q * j))

-- ---- ranges
-- from -l to h
abbrev pub Within : ℕ → ℕ → ℤ → Type 0
Within l h (pos n) = n ≤ h
Within l h (negsuc n) = suc n ≤ l

pub word : (z : ℤ) → mag z < 2 ^ 15 → Within 32768 32767 z
word (pos n) h = omega arith
word (negsuc n) h = omega arith

neg_within : (l h m : ℕ) → m ≤ l → Within l h (neg_ℤ (pos m))
neg_within l h zero g = omega arith
neg_within l h (suc m) g = g

pub within_add : (l h k g : ℕ) (a b : ℤ) → Within l h a → Within k g b → Within (l + k) (h + g) (a +ℤ b)
within_add l h k g (pos a) (pos b) p q = omega arith
within_add l h k g (pos a) (negsuc b) p q =
    either (Within (l + k) (h + g)) (ltb a (suc b)) (negsuc (suc b - suc a)) (pos (a - suc b)) (omega arith) (omega arith)
within_add l h k g (negsuc a) (pos b) p q =
    either (Within (l + k) (h + g)) (ltb b (suc a)) (negsuc (suc a - suc b)) (pos (b - suc a)) (omega arith) (omega arith)
within_add l h k g (negsuc a) (negsuc b) p q = omega arith

pub within_scale : (l h j : ℕ) (a : ℤ) → Within l h a → Within (l * j) (h * j) (a *ℤ pos j)
within_scale l h j (pos a) p = mul-le-mul p (le_refl j)
within_scale l h j (negsuc a) p = neg_within (l * j) (h * j) (suc a * j) (mul-le-mul p (le_refl j))

pub within_mag : (l h k : ℕ) (z : ℤ) → Within l h z → l ≤ 2 ^ k → h < 2 ^ k → mag z < 2 ^ k
within_mag l h k (pos n) p a b = omega arith
within_mag l h k (negsuc n) p a b = omega arith

pub within_32 : (l h : ℕ) (z : ℤ) → Within l h z → l ≤ 2 ^ 31 → h < 2 ^ 31 → SFits w32 z
within_32 l h z p a b = record { sfits = within_mag l h 31 z p a b }

-- shifted to a word
pub within_4 : (z : ℤ) → Within 131072 131071 z → mag (shr_z z 4) < 2 ^ 15
within_4 (pos n) p = omega arith
within_4 (negsuc n) p = omega arith

pub within_16 : (z : ℤ) → Within 524288 524287 z → mag (shr_z z 16) < 2 ^ 15
within_16 (pos n) p = omega arith
within_16 (negsuc n) p = omega arith

-- a wider range
pub within_more : (l h k g : ℕ) (z : ℤ) → Within l h z → l ≤ k → h ≤ g → Within k g z
within_more l h k g (pos n) p a b = omega arith
within_more l h k g (negsuc n) p a b = omega arith

-- ---- what a local reads that holds a sum of such reads
pub read : (w : Width) {x y : ℤ} → x ≡ y → SFits w y → to_z w (of_z w x) ≡ y
read w {x} {y} e f = ap (λ (z : ℤ). to_z w (of_z w z)) e ∙ to_z-of_z f

-- ---- the clipped operators inside these ranges
doubled : (a : ℤ) (k : ℕ) → pos 2 *ℤ (a *ℤ pos k) ≡ a *ℤ pos (2 * k)
doubled a k = *ℤ_comm (pos 2) (a *ℤ pos k) ∙ scale_scale a k 2

module _ (a : ℤ) (p : Within 32768 32767 a) (k : ℕ) (u : k ≤ 16384) where
  pub mult_plain : L_mult a (pos k) ≡ a *ℤ pos (2 * k)
  unfolding L_mult
  mult_plain = rw (doubled a k) (clip_id 31 (a *ℤ pos (2 * k)) (within_mag (32768 * (2 * k)) (32767 * (2 * k)) 31 (a *ℤ pos (2 * k)) (within_scale 32768 32767 (2 * k) a p) (omega arith) (omega arith)))

  pub mac_plain : (l h : ℕ) (s : ℤ) → Within l h s → l + 32768 * (2 * k) ≤ 2 ^ 31 → h + 32767 * (2 * k) < 2 ^ 31 → L_mac s a (pos k) ≡ s +ℤ a *ℤ pos (2 * k)
  unfolding L_mac L_add
  mac_plain l h s q x y =
      rw mult_plain
      (clip_id 31 (s +ℤ a *ℤ pos (2 * k))
      (within_mag (l + 32768 * (2 * k)) (h + 32767 * (2 * k)) 31 (s +ℤ a *ℤ pos (2 * k)) (within_add l h (32768 * (2 * k)) (32767 * (2 * k)) s (a *ℤ pos (2 * k)) q (within_scale 32768 32767 (2 * k) a p)) x y))

-- the high word of a product by 2 ^ 14 or 2 ^ 12, rounded
high_14 : (z : ℤ) → shr_z (z *ℤ pos 16384) 65536 ≡ shr_z z 4
high_14 (pos a) = ap pos (omega arith)
high_14 (negsuc a) = ap (λ (y : ℤ). shr_z y 65536) (neg_pos (suc a * 16384) (a * 16384 + 16383) (omega arith)) ∙ ap negsuc (omega arith)

high_12 : (z : ℤ) → shr_z (z *ℤ pos 4096) 65536 ≡ shr_z z 16
high_12 (pos a) = ap pos (omega arith)
high_12 (negsuc a) = ap (λ (y : ℤ). shr_z y 65536) (neg_pos (suc a * 4096) (a * 4096 + 4095) (omega arith)) ∙ ap negsuc (omega arith)

pub round_14 : (z : ℤ) → mag ((z +ℤ pos 2) *ℤ pos 16384) < 2 ^ 31 → round (z *ℤ pos 16384) ≡ shr_z (z +ℤ pos 2) 4
unfolding round extract_h L_add
round_14 z h = rw (← (scale_add 16384 z (pos 2)), clip_id 31 ((z +ℤ pos 2) *ℤ pos 16384) h) (high_14 (z +ℤ pos 2))

pub round_12 : (z : ℤ) → mag ((z +ℤ pos 8) *ℤ pos 4096) < 2 ^ 31 → round (z *ℤ pos 4096) ≡ shr_z (z +ℤ pos 8) 16
unfolding round extract_h L_add
round_12 z h = rw (← (scale_add 4096 z (pos 8)), clip_id 31 ((z +ℤ pos 8) *ℤ pos 4096) h) (high_12 (z +ℤ pos 8))
