-- TS 26.073 Qua_gain at 7.4 kbit/s: the row of the table that is nearest, and the entry.
use Rattle.std.specs.Prelude.{List, [], ◌∷◌, ℕ, ℤ, pos, negsuc}
use Rattle.fixed.specs.Operators.{sub, extract_l}
use Rattle.fixed.specs.Lists.{shifted}
use Rattle.refusal.specs.Refused.{Told, values, refused}
use Rattle.refusal.specs.Checks.{Check, checked, length_is, known_limit, predicted_exponent, power_fraction}
use Rattle.logarithm.specs.Powers.{power}
use Rattle.gain_table.specs.Rows.{row}
use Rattle.gain_sums.specs.Sums.{clips}
use Rattle.gain_pitch.specs.Gains.{G_pitch}
use Rattle.gain_limit.specs.Limits.{gp_limit}
use Rattle.gain_coefficients.specs.Energies.{coefficients}
use Rattle.gain_choice.specs.Rows.{nearest_row}
use Rattle.gain.specs.declared.QuantizedGain.{QuantizedGain}

-- ---- the stage
-- 'gcode0 = extract_l (Pow2 (14, frac_gcode0))'
unfoldable pub gcode0 : ℕ → ℤ
gcode0 fraction = extract_l (pos (power 14 fraction))

-- the innovation is shifted down by 3 first
abbrev pub eighths : List ℤ → List ℤ
eighths zs = shifted zs (negsuc 2) 40

-- the weights of a stage's inputs
unfoldable pub weights : List ℤ → List ℤ → List ℤ → ℤ → List ℤ
weights xs ys zs exponent = coefficients xs ys (eighths zs) (G_pitch xs ys) (sub exponent (pos 11))

-- row i, and 02, request 09: the counts of the five sums
abbrev pub chosen : List ℤ → List ℤ → List ℤ → ℕ → QuantizedGain
chosen xs ys zs i =
    record {
      index = i;
      row = row i;
      pitch_clips = record { energy = clips ys ys 40; target = clips xs ys 40 };
      innovation_clips =
          record {
            energy = clips (eighths zs) (eighths zs) 40;
            target = clips xs (eighths zs) 40;
            adaptive = clips ys (eighths zs) 40;
          };
    }

unfoldable pub Qua_gain : List ℤ → List ℤ → List ℤ → ℤ → ℕ → ℤ → QuantizedGain
Qua_gain xs ys zs exponent fraction limit = chosen xs ys zs (nearest_row (weights xs ys zs exponent) (gcode0 fraction) limit)

-- ---- the entry
-- the innovation's gain that a pair predicts: 01, number 7, then 02, number 14
abbrev pub predicted : ℤ → ℕ → Told ℤ
predicted exponent fraction = checked (predicted_exponent exponent ∷ power_fraction fraction ∷ []) refused (values (gcode0 fraction))

-- what is left to check once the limit is known
abbrev pub limited : List ℤ → List ℤ → List ℤ → ℤ → ℕ → ℕ → Told QuantizedGain
limited xs ys zs exponent fraction choice =
    checked (predicted_exponent exponent ∷ power_fraction fraction ∷ []) refused (values (Qua_gain xs ys zs exponent fraction (gp_limit choice)))

-- 01, numbers 1, 2 and 7, then 02, number 14, in that order
abbrev pub gain_checks : List ℤ → List ℤ → List ℤ → ℤ → ℕ → ℕ → List Check
gain_checks xs ys zs exponent fraction choice =
    length_is 40 xs ∷ length_is 40 ys ∷ length_is 40 zs ∷ known_limit choice ∷ predicted_exponent exponent ∷ power_fraction fraction ∷ []

-- `quantize`
unfoldable pub quantize : List ℤ → List ℤ → List ℤ → ℤ → ℕ → ℕ → Told QuantizedGain
quantize xs ys zs exponent fraction choice =
    checked (gain_checks xs ys zs exponent fraction choice) refused (values (Qua_gain xs ys zs exponent fraction (gp_limit choice)))
