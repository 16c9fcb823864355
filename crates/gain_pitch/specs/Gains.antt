-- TS 26.073 G_pitch: the gain of the pitch, and the normalised energy and correlation that it comes from.
use Rattle.std.specs.Prelude.{cond, List, [], ◌∷◌, ℕ, ℤ, pos, negsuc}
use Rattle.std.specs.Int.Signed.{lt_z}
use Rattle.fixed.specs.declared.Flagged.{Flagged}
use Rattle.fixed.specs.Operators.{sub, round, L_shl, shl, norm_l, div_s}
use Rattle.fixed.specs.Lists.{shifted}
use Rattle.refusal.specs.Refused.{Told, values, refused}
use Rattle.refusal.specs.Checks.{checked, length_is}
use Rattle.gain_sums.specs.Sums.{flagged_sum, clips}
use Rattle.gain_pitch.specs.declared.ScaledWord.{ScaledWord}
use Rattle.gain_pitch.specs.declared.PitchGain.{PitchGain}

-- ---- a long with its highest bit brought up
-- 'exp_yy = norm_l (s); yy = round (L_shl (s, exp_yy)); exp_yy = sub (exp_yy, 4)'; nothing is subtracted where the sum did not overflow
unfoldable pub normalized : ℤ → ℤ → ScaledWord
normalized s lowered = record { word = round (L_shl s (pos (norm_l s))); exponent = sub (pos (norm_l s)) lowered }

-- 'if (Overflow == 0)': a sum, else another one, its exponent lowered
unfoldable pub unless_overflow : Flagged → Flagged → ℤ → ScaledWord
unless_overflow s t lowered = cond s.overflow (normalized t.value lowered) (normalized s.value (pos 0))

-- 'divide "y1[]" by 4 to avoid overflow'
abbrev pub quarters : List ℤ → List ℤ
quarters ys = shifted ys (negsuc 1) 40

-- the scalar products <y1[], y1[]> and <xn[], y1[]>
abbrev pub energy : List ℤ → ScaledWord
energy ys = unless_overflow (flagged_sum ys ys 40) (flagged_sum (quarters ys) (quarters ys) 40) (pos 4)

abbrev pub correlation : List ℤ → List ℤ → ScaledWord
correlation xs ys = unless_overflow (flagged_sum xs ys 40) (flagged_sum xs (quarters ys) 40) (pos 2)

-- ---- the gain
-- 'xy = shr (xy, 1); gain = div_s (xy, yy); gain = shr (gain, exp_xy - exp_yy)': a shift to the right by a count is one to the left by its negative
unfoldable pub quotient : ScaledWord → ScaledWord → ℤ
quotient xy yy = shl (div_s (shl xy.word (negsuc 0)) yy.word) (sub yy.exponent xy.exponent)

-- 01: '0 for normalised xy below 4, else at most 19661'
unfoldable pub gain : ScaledWord → ScaledWord → ℤ
gain xy yy = cond (lt_z xy.word (pos 4)) (pos 0) (cond (lt_z (pos 19661) (quotient xy yy)) (pos 19661) (quotient xy yy))

-- the gain and g_coeff[0] to g_coeff[3], and the counts
unfoldable pub coefficients : ScaledWord → ScaledWord → ℕ → ℕ → PitchGain
coefficients xy yy energy_clips target_clips =
    record {
      gain_q14 = gain xy yy;
      yy = record { word = yy.word; exponent = sub (pos 15) yy.exponent };
      xy = record { word = xy.word; exponent = sub (pos 15) xy.exponent };
      clips = record { energy = energy_clips; target = target_clips };
    }

-- 02, request 09: 'the counts of its first energy sum and first target sum', not of a sum that is made anew with quarters
unfoldable pub G_pitch : List ℤ → List ℤ → PitchGain
G_pitch xs ys = coefficients (correlation xs ys) (energy ys) (clips ys ys 40) (clips xs ys 40)

-- ---- the entry
-- `pitch_gain`: 01, number 1
unfoldable pub pitch_gain : List ℤ → List ℤ → Told PitchGain
pitch_gain xs ys = checked (length_is 40 xs ∷ length_is 40 ys ∷ []) refused (values (G_pitch xs ys))
