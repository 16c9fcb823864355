-- What a test of a number's sign tells, a magnitude for every width, and the remainder of a floor.
use mathlib.Core.Path.{◌≡◌, refl, sym, ap, ◌∙◌}
use mathlib.Core.Bool.{Bool, true, false, not}
use Prim.Native.Nat.{ℕ, zero, suc, ◌+◌, ◌-◌, ◌*◌, ◌/◌, ◌%◌, ◌^◌, ◌<◌, ◌≤◌}
use native.Mathlib.Nat.{div-add-mod', mod-lt, mod-eq_of_lt}
use native.Mathlib.Omega.{arith}
use lib.Dec.{T, ltb, leb}
use lib.IntN.{ℤ, pos, negsuc, neg_ℤ, nat_abs, sub_ℕ, neg_ℤ-neg_ℤ, ◌+ℤ◌, ◌-ℤ◌, ◌*ℤ◌}
use lib.Signed.{mag, lt_z, le_z, non_neg, shr_z}
use mir.Syntax.{Width, w16}
use mir.Val.{SFits, Fits, hbits}
use mir.ValLaws.{half_full}
use borrow.Author.Tests.{ltb-true, ltb-false, le-ltb, lt-ltb, le-leb, lt-leb}
use Rattle.fixed.specs.Clip.{clip}
use Rattle.fixed.specs.Operators.{remainder, extract_l, positive_or}
use Rattle.fixed.proofs.Bounds.{either, ok}
use Rattle.fixed.proofs.Clips.{contradiction, clip_id}

-- ---- differences
pub sub_le : (a b : ℕ) → b ≤ a → sub_ℕ a b ≡ pos (a - b)
sub_le a b h = rw (le-ltb a b h)

pub pos_sub : (a b : ℕ) → b ≤ a → pos a -ℤ pos b ≡ pos (a - b)
pos_sub a zero h = ap pos (omega arith)
pos_sub a (suc b) h = sub_le a (suc b) h

pub sub_above : (a b : ℕ) → a < b → pos a -ℤ pos b ≡ negsuc (b - suc a)
sub_above a zero h = absurd (omega arith)
sub_above a (suc b) h = rw (lt-ltb a (suc b) h)

pub mag_neg : (n : ℕ) → mag (neg_ℤ (pos n)) ≤ n - 1
mag_neg zero = omega arith
mag_neg (suc n) = omega arith

pub neg_pos : (m k : ℕ) → m ≡ suc k → neg_ℤ (pos m) ≡ negsuc k
neg_pos m k e = rw e

pub double_neg : (n : ℕ) → pos 2 *ℤ neg_ℤ (pos n) ≡ neg_ℤ (pos (2 * n))
double_neg zero = refl
double_neg (suc n) = refl

-- ---- the sign: z is -(mag z + 1) below 0, and mag z else
pub neg_is : (z : ℤ) → lt_z z (pos 0) ≡ true → z ≡ negsuc (mag z)
neg_is (pos n) e = absurd (omega (arith, ltb-true n 0 e))
neg_is (negsuc n) e = refl

pub pos_is : (z : ℤ) → lt_z z (pos 0) ≡ false → z ≡ pos (mag z)
pos_is (pos n) e = refl
pos_is (negsuc n) e = contradiction (sym e)

-- -1 - z of a negative z
pub complement : (z : ℤ) → lt_z z (pos 0) ≡ true → negsuc 0 -ℤ z ≡ pos (mag z)
complement z e = rw (neg_is z e) (sub_le (suc (mag z)) 1 (omega arith) ∙ ap pos (omega arith))

-- a number that is not negative, cast to an unsigned type of its width
pub cast_pos : (w : Width) (z : ℤ) → SFits w z → lt_z z (pos 0) ≡ false → T (non_neg z) × Fits w (nat_abs z)
cast_pos w (pos n) f e = (tt, record { fits = half_full w f.sfits })
cast_pos w (negsuc n) f e = contradiction (sym e)

-- |z| by the sign, clipped for every width
pub abs_below : (z : ℤ) → lt_z z (pos 0) ≡ true → neg_ℤ z ≡ pos (nat_abs z)
abs_below z e = rw (neg_is z e)

pub abs_above : (k : ℕ) (z : ℤ) → lt_z z (pos 0) ≡ false → mag z < 2 ^ k → z ≡ clip k (pos (nat_abs z))
abs_above k (pos n) e h = sym (clip_id k (pos n) h)
abs_above k (negsuc n) e h = contradiction (sym e)

-- ---- z less the multiple of m at or below it is the remainder
pub floor_rest : (m : ℕ) (z : ℤ) → 0 < m → z -ℤ shr_z z m *ℤ pos m ≡ pos (remainder z m)
floor_rest m (pos n) h =
    let d = div-add-mod' n m in
    pos_sub n (n / m * m) (omega arith) ∙ ap pos (omega arith)
floor_rest m (negsuc n) h =
    let d = div-add-mod' n m in
    let l : n % m < m = mod-lt n h in
    ap (λ (y : ℤ). negsuc n +ℤ y) (neg_ℤ-neg_ℤ (pos (suc (n / m) * m)))
    ∙ sub_le (suc (n / m) * m) (suc n) (omega arith)
    ∙ ap pos (omega arith)

pub remainder_lt : (m : ℕ) (z : ℤ) → 0 < m → remainder z m < m
remainder_lt m (pos n) h = mod-lt n h
remainder_lt m (negsuc n) h = omega arith

-- the halves of a long
shr_half : (z : ℤ) → shr_z (shr_z z 2) 32768 ≡ shr_z z 65536
shr_half (pos n) = ap pos (omega arith)
shr_half (negsuc n) = ap negsuc (omega arith)

pub low_rest : (z : ℤ) → shr_z z 2 -ℤ shr_z z 65536 *ℤ pos 32768 ≡ pos (remainder (shr_z z 2) 32768)
low_rest z = rw (← (shr_half z)) (floor_rest 32768 (shr_z z 2) (omega arith))

-- a number below 65536, less 32768, is a word
pub centred : (r : ℕ) → r < 65536 → SFits w16 (pos r -ℤ pos 32768)
centred r h = either (SFits w16) (ltb r 32768) (negsuc (32768 - suc r)) (pos (r - 32768)) (ok w16 _ (omega arith)) (ok w16 _ (omega arith))

-- and a word is its own low 16 bits
pub low_id : (z : ℤ) → mag z < 2 ^ 15 → extract_l z ≡ z
unfolding extract_l
low_id (pos n) h =
    let e : (n + 32768) % 65536 ≡ n + 32768 = mod-eq_of_lt (omega arith) in
    rw e (sub_le (n + 32768) 32768 (omega arith) ∙ ap pos (omega arith))
low_id (negsuc n) h =
    let e : (32768 - suc n) % 65536 ≡ 32768 - suc n = mod-eq_of_lt (omega arith) in
    ap (λ (y : ℤ). pos (remainder y 65536) -ℤ pos 32768) (sub_le 32768 (suc n) (omega arith))
    ∙ ap (λ (m : ℕ). pos m -ℤ pos 32768) e
    ∙ sub_above (32768 - suc n) 32768 (omega arith) ∙ ap negsuc (omega arith)

-- twice the floor of a half fits where the number did
pub even_fits : (w : Width) (z : ℤ) → 0 < hbits w → SFits w z → SFits w (shr_z z 2 *ℤ pos 2)
even_fits w (pos n) h f = record { sfits = omega (arith, f.sfits) }
even_fits w (negsuc n) h f =
    rw (neg_pos (suc (n / 2) * 2) (n / 2 * 2 + 1) (omega arith)) (record { sfits = odd (n / 2 * 2) (hbits w) h (omega (arith, f.sfits)) (omega arith) })
  where
    -- an even number below a power of two is not one less than it
    odd : (m k : ℕ) → 0 < k → m < 2 ^ k → m % 2 ≡ 0 → m + 1 < 2 ^ k
    odd m (suc k) h l e = omega (arith, l, e)
    odd m zero h l e = absurd (omega arith)

-- |z| from the magnitude
pub abs_mag_below : (z : ℤ) → lt_z z (pos 0) ≡ true → mag z + 1 ≡ nat_abs z
abs_mag_below z e = rw (neg_is z e) (omega arith)

pub abs_mag_above : (z : ℤ) → lt_z z (pos 0) ≡ false → mag z ≡ nat_abs z
abs_mag_above (pos n) e = refl
abs_mag_above (negsuc n) e = contradiction (sym e)

-- a number that is not below 1
pub positive : {w : Width} (z : ℤ) → lt_z z (pos 1) ≡ false → SFits w z → (0 < nat_abs z) × (nat_abs z < 2 ^ hbits w)
positive (pos n) e f = (omega (arith, ltb-false n 1 e), f.sfits)
positive (negsuc n) e f = contradiction (sym e)

-- a function of the positive numbers, by the test against 1
module _ {A : Type 0} (a : A) (f : ℕ → A) where
  pub not_positive : (z : ℤ) → lt_z z (pos 1) ≡ true → a ≡ positive_or a f z
  not_positive (pos zero) e = refl
  not_positive (pos (suc n)) e = absurd (omega (arith, ltb-true (suc n) 1 e))
  not_positive (negsuc n) e = refl

  pub is_positive : (z : ℤ) → lt_z z (pos 1) ≡ false → f (nat_abs z) ≡ positive_or a f z
  is_positive (pos zero) e = absurd (omega (arith, ltb-false 0 1 e))
  is_positive (pos (suc n)) e = refl
  is_positive (negsuc n) e = contradiction (sym e)

-- ---- one order from the other
le_from_lt : (a b : ℕ) (t : Bool) → ltb a b ≡ t → leb b a ≡ not t
le_from_lt a b true e = lt-leb b a (ltb-true a b e)
le_from_lt a b false e = le-leb b a (ltb-false a b e)

pub le_not_lt : (a b : ℤ) (t : Bool) → lt_z a b ≡ t → le_z b a ≡ not t
le_not_lt (pos a) (pos b) t e = le_from_lt a b t e
le_not_lt (pos a) (negsuc b) t e = ap not e
le_not_lt (negsuc a) (pos b) t e = ap not e
le_not_lt (negsuc a) (negsuc b) t e = le_from_lt b a t e
