-- 01: 'Pitch gain is 0 for normalised xy below 4, else at most 19661'; and its division is by a number that is never 0.
use mathlib.Core.Path.{◌≡◌, refl, sym}
use mathlib.Core.Bool.{Bool, true, false, cond}
use mathlib.Core.List.{List}
use Prim.Native.Nat.{ℕ, zero, suc, ◌+◌, ◌*◌, ◌/◌, ◌^◌, ◌<◌, min}
use native.Mathlib.Omega.{arith}
use lib.Dec.{leb→le, le→leb, lt→ltb}
use lib.IntN.{ℤ, pos, negsuc, ◌+ℤ◌}
use lib.Signed.{mag, lt_z, ◌≤ℤ◌, ◌<ℤ◌, lt_z_no}
use mir.Syntax.{w32}
use Rattle.fixed.specs.Clip.{clip}
use Rattle.fixed.specs.Operators.{L_add, sub, round, extract_h, shift_at, shl, normal, div_s}
use Rattle.fixed.specs.Lists.{at}
use Rattle.fixed.proofs.Bounds.{either, ok, high_fits}
use Rattle.fixed.proofs.Clips.{contradiction, clip_fits}
use Rattle.fixed.proofs.Norms.{normal_range}
use Rattle.sums.specs.Plain.{squared}
use Rattle.sums.proofs.Sums.{energy_from}
use Rattle.gain_sums.specs.Sums.{sum, overflow, flagged_sum}
use Rattle.gain_pitch.specs.declared.ScaledWord.{ScaledWord}
use Rattle.gain_pitch.specs.Gains.{normalized, quarters, unless_overflow, energy, correlation, quotient, gain}

-- ---- the normalised energy is at least 16384
-- a positive long
normal_word : (n : ℕ) (lowered : ℤ) → zero < n → n < 2 ^ 31 → pos 16384 ≤ℤ (normalized (pos n) lowered).word
unfolding normalized round extract_h L_add shift_at
normal_word n lowered h l =
    let r = normal_range n h l in
    record { le = le→leb 16384 (min (min (normal n) 2147483647 + 32768) 2147483647 / 65536) (omega (arith, r)) }

-- a sum of squares
energy_sum : (zs : List ℤ) (lowered : ℤ) → pos 16384 ≤ℤ (normalized (sum zs zs 40) lowered).word
unfolding sum
energy_sum zs lowered = rw (energy_from 1 zs 40 (omega arith)) (normal_word (min (1 + 2 * squared (at zs) 40) 2147483647) lowered (omega arith) (omega arith))

pub energy_word : (ys : List ℤ) → pos 16384 ≤ℤ (energy ys).word
unfolding unless_overflow flagged_sum
energy_word ys =
    let qs = quarters ys in
    either (λ (s : ScaledWord). pos 16384 ≤ℤ s.word) (overflow ys ys 40) (normalized (sum qs qs 40) (pos 4)) (normalized (sum ys ys 40) (pos 0))
    (energy_sum qs (pos 4)) (energy_sum ys (pos 0))

-- ---- a natural number
natural : (n : ℕ) → pos 0 ≤ℤ pos n
natural n = record { le = le→leb 0 n (omega arith) }

-- ---- so the division is by a number that is not 0, of a smaller one
round_fits : (v : ℤ) → mag (round v) < 2 ^ 15
unfolding round extract_h L_add
round_fits v = (high_fits (ok w32 (clip 31 (v +ℤ pos 32768)) (clip_fits 31 (v +ℤ pos 32768)))).sfits

correlation_fits : (xs ys : List ℤ) → mag (correlation xs ys).word < 2 ^ 15
unfolding unless_overflow flagged_sum normalized
correlation_fits xs ys =
    either (λ (s : ScaledWord). mag s.word < 2 ^ 15) (overflow xs ys 40) (normalized (sum xs (quarters ys) 40) (pos 2)) (normalized (sum xs ys 40) (pos 0))
    (round_fits _) (round_fits _)

halved_below : (w y : ℤ) → mag w < 2 ^ 15 → lt_z w (pos 4) ≡ false → pos 16384 ≤ℤ y → (pos 0 ≤ℤ shl w (negsuc 0)) × (shl w (negsuc 0) <ℤ y)
unfolding shift_at
halved_below (pos w) (pos y) f e h =
    let l = leb→le 16384 y h.le in
    (natural (w / 2), record { lt = lt→ltb (w / 2) y (omega arith) })
halved_below (pos w) (negsuc y) f e h = absurd h.le
halved_below (negsuc w) y f e h = contradiction (sym e)

pub division : (xs ys : List ℤ) → lt_z (correlation xs ys).word (pos 4) ≡ false →
    (pos 0 ≤ℤ shl (correlation xs ys).word (negsuc 0)) × (shl (correlation xs ys).word (negsuc 0) <ℤ (energy ys).word)
division xs ys e = halved_below (correlation xs ys).word (energy ys).word (correlation_fits xs ys) e (energy_word ys)

-- ---- the gain
pub gain_zero : (xy yy : ScaledWord) → lt_z xy.word (pos 4) ≡ true → gain xy yy ≡ pos 0
unfolding gain
gain_zero xy yy e = rw e

div_natural : (a b : ℤ) → pos 0 ≤ℤ div_s a b
unfolding div_s
div_natural (pos a) (pos zero) = natural 0
div_natural (pos a) (pos (suc b)) = natural (min (a * 32768 / suc b) 32767)
div_natural (pos a) (negsuc b) = natural 0
div_natural (negsuc a) b = natural 0

shl_natural : (a n : ℤ) → pos 0 ≤ℤ a → pos 0 ≤ℤ shl a n
unfolding shift_at
shl_natural (pos a) (pos n) h = natural (min (a * 2 ^ n) 32767)
shl_natural (pos a) (negsuc n) h = natural (a / 2 ^ suc n)
shl_natural (negsuc a) n h = absurd h.le

pub gain_range : (xy yy : ScaledWord) → (pos 0 ≤ℤ gain xy yy) × (gain xy yy ≤ℤ pos 19661)
unfolding gain quotient
gain_range xy yy =
    let q = quotient xy yy in
    let low = shl_natural (div_s (shl xy.word (negsuc 0)) yy.word) (sub yy.exponent xy.exponent) (div_natural (shl xy.word (negsuc 0)) yy.word) in
    either (λ (z : ℤ). (pos 0 ≤ℤ z) × (z ≤ℤ pos 19661)) (lt_z xy.word (pos 4)) (pos 0) (cond (lt_z (pos 19661) q) (pos 19661) q)
    (record { le = tt }, record { le = tt }) (held q low (lt_z (pos 19661) q) refl)
  where
    held : (q : ℤ) → pos 0 ≤ℤ q → (t : Bool) → lt_z (pos 19661) q ≡ t → (pos 0 ≤ℤ cond t (pos 19661) q) × (cond t (pos 19661) q ≤ℤ pos 19661)
    held q h true e = (record { le = tt }, record { le = tt })
    held q h false e = (h, lt_z_no (rw e tt))
