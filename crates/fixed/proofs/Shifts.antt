-- Shifts for every width k: a count past k, held at k, gives the same number; a narrow shift by way of a wide one.
use mathlib.Core.Path.{◌≡◌, sym, ap, ◌∙◌}
use mathlib.Core.Bool.{Bool, true, false}
use Prim.Native.Nat.{ℕ, zero, suc, ◌-◌, ◌*◌, ◌/◌, ◌^◌, ◌<◌, ◌≤◌, min}
use native.Mathlib.Nat.{div-eq_of_lt, lt_of_lt_of_le, lt_of_le_of_lt, mul-le-mul, div-div-eq-div-mul, div-le_self}
use native.Mathlib.Omega.{arith}
use lib.Dec.{leb, lit<}
use lib.IntN.{ℤ, pos, negsuc, nat_abs, ◌*ℤ◌, zero-*ℤ}
use lib.Pow.{pow_pos, pow_mono}
use lib.Signed.{mag, lt_z, shr_z, mag_shr}
use mir.Syntax.{w32, w64}
use mir.Val.{SFits}
use borrow.Author.Tests.{leb-true, leb-false}
use Rattle.fixed.specs.Clip.{clip}
use Rattle.fixed.specs.Operators.{shl, shift_at}
use Rattle.fixed.proofs.Bounds.{abs_mul, abs_fits, fits_abs}
use Rattle.fixed.proofs.Clips.{clip_id, clip_wider}
use Rattle.fixed.proofs.Signs.{neg_is, pos_is, neg_pos}

-- past k places to the left a number is out of range, or 0
left_more : (k n : ℕ) (v : ℤ) → k ≤ n → clip k (v *ℤ pos (2 ^ k)) ≡ clip k (v *ℤ pos (2 ^ n))
left_more k n (pos zero) h = ap (clip k) (zero-*ℤ (pos (2 ^ k)) ∙ sym (zero-*ℤ (pos (2 ^ n))))
left_more k n (pos (suc a)) h = let p = pow_mono h in ap pos (omega arith)
left_more k n (negsuc a) h =
    let p = pow_mono h in
    let q = pow_pos k in
    ap (clip k) (neg_pos (suc a * 2 ^ k) (suc a * 2 ^ k - 1) (omega arith))
    ∙ ap negsuc (omega arith)
    ∙ ap (clip k) (sym (neg_pos (suc a * 2 ^ n) (suc a * 2 ^ n - 1) (omega arith)))

-- and past k places to the right only the sign is left of a number of k bits
right_more : (k n : ℕ) (v : ℤ) → mag v < 2 ^ k → k ≤ n → shr_z v (2 ^ k) ≡ shr_z v (2 ^ n)
right_more k n (pos a) l h = ap pos (div-eq_of_lt l ∙ sym (div-eq_of_lt (lt_of_lt_of_le l (pow_mono h))))
right_more k n (negsuc a) l h = ap negsuc (div-eq_of_lt l ∙ sym (div-eq_of_lt (lt_of_lt_of_le l (pow_mono h))))

-- so a rule of the count n may be read at the held count, once it holds where n is k or more
held : {A : Type 0} (f : ℕ → A) (k n : ℕ) → (k ≤ n → f k ≡ f n) → f (min n k) ≡ f n
held f k n more = go (leb n k) mathlib.Core.Path.refl
  where
    go : (b : Bool) → leb n k ≡ b → f (min n k) ≡ f n
    go true e = ap f (omega (arith, leb-true n k e))
    go false e = let l : k ≤ n = omega (arith, leb-false n k e) in ap f (omega arith) ∙ more l

pub left_held : (k n : ℕ) (v : ℤ) → clip k (v *ℤ pos (2 ^ min n k)) ≡ clip k (v *ℤ pos (2 ^ n))
left_held k n v = held (λ (m : ℕ). clip k (v *ℤ pos (2 ^ m))) k n (left_more k n v)

pub right_held : (k n : ℕ) (v : ℤ) → mag v < 2 ^ k → shr_z v (2 ^ min n k) ≡ shr_z v (2 ^ n)
right_held k n v l = held (λ (m : ℕ). shr_z v (2 ^ m)) k n (right_more k n v l)

-- a long shifted by at most 31 places fits 64 bits
pub left_fits : {z : ℤ} (n : ℕ) → SFits w32 z → n ≤ 31 → SFits w64 (z *ℤ pos (2 ^ n))
left_fits {z} n f h =
    fits_abs w64 (z *ℤ pos (2 ^ n)) (rw (abs_mul z (pos (2 ^ n))) (lt_of_le_of_lt (mul-le-mul (abs_fits f) (pow_mono h)) (lit< tt)))

-- the sign of the count chooses the side
pub shift_right_is : (k : ℕ) (v n : ℤ) → lt_z n (pos 0) ≡ true → shr_z v (2 ^ nat_abs n) ≡ shift_at k v n
unfolding shift_at
shift_right_is k v n t = rw (neg_is n t)

pub shift_left_is : (k : ℕ) (v n : ℤ) → lt_z n (pos 0) ≡ false → shift_at k v (pos (nat_abs n)) ≡ shift_at k v n
shift_left_is k v n t = rw (pos_is n t)

-- a shift at the width j by way of a wider one
pub shift_wider : (j k : ℕ) (v n : ℤ) → j ≤ k → mag v < 2 ^ j → clip j (shift_at k v n) ≡ shift_at j v n
unfolding shift_at
shift_wider j k v (pos n) h l = clip_wider j k (v *ℤ pos (2 ^ n)) h
shift_wider j k v (negsuc n) h l = clip_id j (shr_z v (2 ^ suc n)) (lt_of_le_of_lt (mag_shr v (2 ^ suc n)) l)

-- a count held at 31, at every width up to it
module _ (k : ℕ) (v n : ℤ) (h : k ≤ 31) (l : mag v < 2 ^ k) where
  pub right_at : lt_z n (pos 0) ≡ true → clip k (shr_z v (2 ^ min (nat_abs n) 31)) ≡ shift_at k v n
  right_at t =
      ap (clip k) (right_held 31 (nat_abs n) v (lt_of_lt_of_le l (pow_mono h)))
      ∙ clip_id k (shr_z v (2 ^ nat_abs n)) (lt_of_le_of_lt (mag_shr v (2 ^ nat_abs n)) l)
      ∙ shift_right_is k v n t

  pub left_at : lt_z n (pos 0) ≡ false → clip k (v *ℤ pos (2 ^ min (nat_abs n) 31)) ≡ shift_at k v n
  unfolding shift_at
  left_at t =
      sym (clip_wider k 31 (v *ℤ pos (2 ^ min (nat_abs n) 31)) h)
      ∙ ap (clip k) (left_held 31 (nat_abs n) v)
      ∙ clip_wider k 31 (v *ℤ pos (2 ^ nat_abs n)) h
      ∙ shift_left_is k v n t

-- a shift of a natural number by one place or more halves it at least
pub half_le : (v n : ℕ) → v / 2 ^ suc n ≤ v / 2
half_le v n =
    let e : 2 ^ suc n ≡ 2 * 2 ^ n = omega arith in
    rw (e, ← (div-div-eq-div-mul v 2 (2 ^ n))) (div-le_self (v / 2) (2 ^ n))

-- an eighth of a word
pub eighth_le : (z : ℤ) → mag z < 2 ^ 15 → nat_abs (shl z (negsuc 2)) ≤ 4096
unfolding shift_at
eighth_le (pos n) h = omega arith
eighth_le (negsuc n) h = omega arith
