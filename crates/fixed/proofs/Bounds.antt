-- Bounds of signed numbers: |z| of a sum, a difference, a product and a shift, in ℕ, where `omega` can finish; a number that fits a width, from such a
-- bound and back; and what a local that holds a call's result reads.
use mathlib.Core.Path.{◌≡◌, refl, ◌∙◌}
use mathlib.Core.Bool.{Bool, true, false, cond}
use Prim.Native.Nat.{ℕ, zero, suc, ◌+◌, ◌-◌, ◌*◌, ◌/◌, ◌^◌, ◌<◌, ◌≤◌}
use native.Mathlib.Nat.{le_refl, lt_of_le_of_lt, lt_of_lt_of_le, mul-le-mul, div-le_self}
use native.Mathlib.Omega.{arith}
use lib.Dec.{T, ltb, ltb→lt, leb→le, lit<}
use lib.IntN.{ℤ, pos, negsuc, neg_ℤ, nat_abs, sub_ℕ, ◌+ℤ◌, ◌-ℤ◌, ◌*ℤ◌}
use lib.Pow.{shr_mono, pow_mono}
use lib.Signed.{mag, shr_z, mag_shr, nat_abs-le, ◌≤ℤ◌}
use mir.Syntax.{Width, w16, w32, w64}
use mir.Val.{SFits, hbits, to_z, of_z}
use mir.Facts.{to_z-of_z, sfits_widen}
use borrow.Author.Rules.{sfits_of}

pub mag_abs : (z : ℤ) → mag z ≤ nat_abs z
mag_abs (pos n) = le_refl n
mag_abs (negsuc n) = omega arith

-- a word by its ends
pub word_fits : (z : ℤ) → (negsuc 32767 ≤ℤ z) × (z ≤ℤ pos 32767) → mag z < 2 ^ 15
word_fits (pos n) (l, h) = omega (arith, leb→le n 32767 h.le)
word_fits (negsuc n) (l, h) = omega (arith, leb→le n 32767 l.le)

-- what holds of both arms of a test holds of what it picks
pub either : {A : Type 0} (P : A → Type 0) (c : Bool) (x y : A) → P x → P y → P (cond c x y)
either P true x y h g = h
either P false x y h g = g

abs_sub_suc : (a b : ℕ) → nat_abs (sub_ℕ a (suc b)) ≤ a + suc b
abs_sub_suc a b =
    either (λ (z : ℤ). nat_abs z ≤ a + suc b) (ltb a (suc b)) (negsuc (suc b - suc a)) (pos (a - suc b)) (omega arith) (omega arith)

pub abs_neg : (z : ℤ) → nat_abs (neg_ℤ z) ≡ nat_abs z
abs_neg (pos zero) = refl
abs_neg (pos (suc n)) = refl
abs_neg (negsuc n) = refl

pub abs_add : (a b : ℤ) → nat_abs (a +ℤ b) ≤ nat_abs a + nat_abs b
abs_add (pos a) (pos b) = le_refl (a + b)
abs_add (pos a) (negsuc b) = abs_sub_suc a b
abs_add (negsuc a) (pos b) = omega (arith, abs_sub_suc b a)
abs_add (negsuc a) (negsuc b) = omega arith

pub abs_sub : (a b : ℤ) → nat_abs (a -ℤ b) ≤ nat_abs a + nat_abs b
abs_sub a b = rw (← (abs_neg b)) (abs_add a (neg_ℤ b))

pub abs_mul : (a b : ℤ) → nat_abs (a *ℤ b) ≡ nat_abs a * nat_abs b
abs_mul (pos a) (pos b) = refl
abs_mul (pos a) (negsuc b) = abs_neg (pos (a * suc b))
abs_mul (negsuc a) (pos b) = abs_neg (pos (suc a * b))
abs_mul (negsuc a) (negsuc b) = refl

pub abs_shr : (z : ℤ) (m : ℕ) → nat_abs (shr_z z m) ≤ nat_abs z
abs_shr (pos a) m = div-le_self a m
abs_shr (negsuc a) m = omega (arith, div-le_self a m)

-- and by k places it is at most the quotient of a bound, and 1
pub shift_le : (z : ℤ) (k b : ℕ) → nat_abs z ≤ b → nat_abs (shr_z z (2 ^ k)) ≤ b / 2 ^ k + 1
shift_le (pos a) k b h = omega (arith, shr_mono k h)
shift_le (negsuc a) k b h = omega (arith, shr_mono {a = a} {b = b} k (omega arith))

-- a number that fits, from a bound, and back
pub fits_abs : (w : Width) (z : ℤ) → nat_abs z < 2 ^ hbits w → SFits w z
fits_abs w z h = record { sfits = lt_of_le_of_lt (mag_abs z) h }

pub abs_fits : {w : Width} {z : ℤ} → SFits w z → nat_abs z ≤ 2 ^ hbits w
abs_fits {w} {z} f = nat_abs-le z f.sfits

-- a sum, a difference and a product of numbers that fit a width fit a wider one; a shift to the right fits where its number did
module _ (w v : Width) {a b : ℤ} (t : T (ltb (2 ^ hbits w + 2 ^ hbits w) (2 ^ hbits v))) (f : SFits w a) (g : SFits w b) where
  sum_fits : SFits v (a +ℤ b)
  sum_fits = fits_abs v (a +ℤ b) (omega (arith, abs_add a b, abs_fits f, abs_fits g, ltb→lt (2 ^ hbits w + 2 ^ hbits w) (2 ^ hbits v) t))

  difference_fits : SFits v (a -ℤ b)
  difference_fits = fits_abs v (a -ℤ b) (omega (arith, abs_sub a b, abs_fits f, abs_fits g, ltb→lt (2 ^ hbits w + 2 ^ hbits w) (2 ^ hbits v) t))

pub product_fits : (w u v : Width) {a b : ℤ} → T (ltb (2 ^ hbits w * 2 ^ hbits u) (2 ^ hbits v)) → SFits w a → SFits u b → SFits v (a *ℤ b)
product_fits w u v {a} {b} t f g =
    fits_abs v (a *ℤ b) (rw (abs_mul a b) (lt_of_le_of_lt (mul-le-mul (abs_fits f) (abs_fits g)) (ltb→lt (2 ^ hbits w * 2 ^ hbits u) (2 ^ hbits v) t)))

pub shift_fits : {w : Width} {z : ℤ} (m : ℕ) → SFits w z → SFits w (shr_z z m)
shift_fits {w} {z} m f = record { sfits = lt_of_le_of_lt (mag_shr z m) f.sfits }

-- the upper bits of a number of j + k bits are a number of j bits
shr_narrow : (j k : ℕ) (z : ℤ) → mag z < 2 ^ (j + k) → mag (shr_z z (2 ^ k)) < 2 ^ j
shr_narrow j k (pos n) h = lib.Pow.shr_lt j k h
shr_narrow j k (negsuc n) h = lib.Pow.shr_lt j k h

pub high_fits : {z : ℤ} → SFits w32 z → SFits w16 (shr_z z 65536)
high_fits {z} f = record { sfits = shr_narrow 15 16 z f.sfits }

-- a number of a known bound times a natural number
pub scaled_fits : (w : Width) (z : ℤ) (n m : ℕ) → nat_abs z ≤ n → T (ltb (n * m) (2 ^ hbits w)) → SFits w (z *ℤ pos m)
scaled_fits w z n m h t =
    fits_abs w (z *ℤ pos m) (rw (abs_mul z (pos m)) (lt_of_le_of_lt (mul-le-mul h (le_refl m)) (ltb→lt (n * m) (2 ^ hbits w) t)))

-- at the widths in use
pub fits_16_32 : {z : ℤ} → SFits w16 z → SFits w32 z
fits_16_32 = sfits_widen tt

pub fits_32_64 : {z : ℤ} → SFits w32 z → SFits w64 z
fits_32_64 = sfits_widen tt

pub sum_32 : {a b : ℤ} → SFits w16 a → SFits w16 b → SFits w32 (a +ℤ b)
sum_32 = sum_fits w16 w32 tt

pub sum_64 : {a b : ℤ} → SFits w32 a → SFits w32 b → SFits w64 (a +ℤ b)
sum_64 = sum_fits w32 w64 tt

pub difference_32 : {a b : ℤ} → SFits w16 a → SFits w16 b → SFits w32 (a -ℤ b)
difference_32 = difference_fits w16 w32 tt

pub difference_64 : {a b : ℤ} → SFits w32 a → SFits w32 b → SFits w64 (a -ℤ b)
difference_64 = difference_fits w32 w64 tt

pub product_32 : {a b : ℤ} → SFits w16 a → SFits w16 b → SFits w32 (a *ℤ b)
product_32 = product_fits w16 w16 w32 tt

-- what `search` is handed for a signed need
pub ruleset signed = (lit<, to_z-of_z, sfits_of, fits_16_32, fits_32_64, sum_32, sum_64, difference_32, difference_64, product_32, shift_fits, high_fits)

-- a bound as the record that says so, and what a local reads that holds a result r of which an equation is known
pub ok : (w : Width) (z : ℤ) → mag z < 2 ^ hbits w → SFits w z
ok w z h = record { sfits = h }

-- a number of k bits below the sign, at most 31, is a long
pub of_bits : (k : ℕ) (z : ℤ) → k ≤ 31 → mag z < 2 ^ k → SFits w32 z
of_bits k z h m = ok w32 z (lt_of_lt_of_le m (pow_mono h))

pub got : (w : Width) {r x : ℤ} → mag r < 2 ^ hbits w → r ≡ x → to_z w (of_z w r) ≡ x
got w {r} h e = to_z-of_z {z = r} (ok w r h) ∙ e
