-- The laws of `clip`, for every width k at once, and what the two tests of a function that clips tell.
use mathlib.Core.Path.{◌≡◌, refl, sym, ap, ◌∙◌}
use mathlib.Core.Bool.{Bool, true, false, ◌&&◌}
use Prim.Native.Nat.{ℕ, ◌-◌, ◌^◌, ◌<◌, ◌≤◌, min}
use native.Mathlib.Omega.{arith}
use lib.Dec.{T, leb→le, le→leb}
use lib.IntN.{ℤ, pos, negsuc, nat_abs}
use lib.Pow.{pow_pos, pow_mono}
use lib.Signed.{mag, lt_z, le_z, ◌≤ℤ◌}
use mir.Syntax.{Width}
use mir.Val.{SFits, hbits, to_z, of_z}
use mir.Facts.{to_z-of_z}
use borrow.Author.Tests.{ltb-true, ltb-false}
use Rattle.fixed.specs.Clip.{clip}

-- in range: -2 ^ k to 2 ^ k - 1
pub clip_fits : (k : ℕ) (z : ℤ) → mag (clip k z) < 2 ^ k
clip_fits k (pos n) = omega (arith, pow_pos k)
clip_fits k (negsuc n) = omega (arith, pow_pos k)

-- no farther from 0
pub abs_clip : (k : ℕ) (z : ℤ) → nat_abs (clip k z) ≤ nat_abs z
abs_clip k (pos n) = omega arith
abs_clip k (negsuc n) = omega arith

-- the identity inside the range
pub clip_id : (k : ℕ) (z : ℤ) → mag z < 2 ^ k → clip k z ≡ z
clip_id k (pos n) h = ap pos (omega arith)
clip_id k (negsuc n) h = ap negsuc (omega arith)

-- idempotent
pub clip_clip : (k : ℕ) (z : ℤ) → clip k (clip k z) ≡ clip k z
clip_clip k z = clip_id k (clip k z) (clip_fits k z)

-- after a wider clip: the narrow one alone
pub clip_wider : (j k : ℕ) (z : ℤ) → j ≤ k → clip j (clip k z) ≡ clip j z
clip_wider j k (pos n) h = ap pos (omega (arith, pow_mono h))
clip_wider j k (negsuc n) h = ap negsuc (omega (arith, pow_mono h))

-- monotone
pub clip_mono : (k : ℕ) {a b : ℤ} → a ≤ℤ b → clip k a ≤ℤ clip k b
clip_mono k {a} {b} h = record { le = go a b h.le }
  where
    go : (a b : ℤ) → T (le_z a b) → T (le_z (clip k a) (clip k b))
    go (pos a) (pos b) t = le→leb (min a (2 ^ k - 1)) (min b (2 ^ k - 1)) (omega (arith, leb→le a b t))
    go (pos a) (negsuc b) t = t
    go (negsuc a) (pos b) t = tt
    go (negsuc a) (negsuc b) t = le→leb (min b (2 ^ k - 1)) (min a (2 ^ k - 1)) (omega (arith, leb→le b a t))

-- a test that is both false and true
pub contradiction : {X : Type 0} → false ≡ true → X
contradiction e = let z : ◌≡◌ {A = ℕ} 0 1 = cc in absurd (omega arith)

-- both of two tests
pub both : (a b : Bool) → (a && b) ≡ true → (a ≡ true) × (b ≡ true)
both true true e = (refl, refl)
both true false e = contradiction e
both false b e = contradiction e

above : (k : ℕ) (z : ℤ) → lt_z (pos (2 ^ k - 1)) z ≡ true → pos (2 ^ k - 1) ≡ clip k z
above k (pos n) e = ap pos (omega (arith, ltb-true))
above k (negsuc n) e = contradiction e

below : (k : ℕ) (z : ℤ) → lt_z z (negsuc (2 ^ k - 1)) ≡ true → negsuc (2 ^ k - 1) ≡ clip k z
below k (pos n) e = contradiction e
below k (negsuc n) e = ap negsuc (omega (arith, ltb-true))

inside : (k : ℕ) (z : ℤ) → lt_z (pos (2 ^ k - 1)) z ≡ false → lt_z z (negsuc (2 ^ k - 1)) ≡ false → mag z < 2 ^ k
inside k (pos n) e f = omega (arith, ltb-false, pow_pos k)
inside k (negsuc n) e f = omega (arith, ltb-false, pow_pos k)

-- the tests of a function that clips a local of the wide type w to the narrow type v; the local holds the bits of z
module _ (w v : Width) {z : ℤ} (f : SFits w z) where
  pub over : lt_z (pos (2 ^ hbits v - 1)) (to_z w (of_z w z)) ≡ true → pos (2 ^ hbits v - 1) ≡ clip (hbits v) z
  over t = above (hbits v) z (rw (to_z-of_z f) at t)

  pub under : lt_z (to_z w (of_z w z)) (negsuc (2 ^ hbits v - 1)) ≡ true → negsuc (2 ^ hbits v - 1) ≡ clip (hbits v) z
  under t = below (hbits v) z (rw (to_z-of_z f) at t)

  module _ (t : lt_z (pos (2 ^ hbits v - 1)) (to_z w (of_z w z)) ≡ false) (u : lt_z (to_z w (of_z w z)) (negsuc (2 ^ hbits v - 1)) ≡ false) where
    within : mag z < 2 ^ hbits v
    within = inside (hbits v) z (rw (to_z-of_z f) at t) (rw (to_z-of_z f) at u)

    pub cast_within : SFits v (to_z w (of_z w z))
    cast_within = rw (to_z-of_z f) (record { sfits = within })

    pub back_within : to_z v (of_z v (to_z w (of_z w z))) ≡ clip (hbits v) z
    back_within = to_z-of_z cast_within ∙ to_z-of_z f ∙ sym (clip_id (hbits v) z within)
