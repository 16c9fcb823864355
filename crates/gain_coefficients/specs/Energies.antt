-- TS 26.073 calc_filt_energies: the energies and correlations of target, adaptive words and filtered innovation, as fractions and exponents; and
-- Qua_gain's coefficients, all on one scale.
use Rattle.std.specs.Prelude.{cond, List, [], ◌∷◌, map, ℤ, pos, negsuc}
use Rattle.std.specs.Int.Signed.{lt_z}
use Rattle.fixed.specs.Operators.{add, sub, negate, extract_h, L_deposit_h, L_shl, shl, norm_l}
use Rattle.gain_pitch.specs.declared.PitchGain.{PitchGain}
use Rattle.gain_pitch.specs.declared.ScaledWord.{ScaledWord}
use Rattle.gain_sums.specs.Sums.{sum, clips}
use Rattle.gain_coefficients.specs.declared.CountedCoefficients.{CountedCoefficients}

-- ---- calc_filt_energies
abbrev pub coefficient : ℤ → ℤ → ScaledWord
coefficient word exponent = record { word = word; exponent = exponent }

-- a sum brought up by norm_l, its high word, and the bias less the places. 01's wrong turn is 'rounding where `energy_coefficients` only shifts'
unfoldable pub cut : ℤ → ℤ → ScaledWord
cut s bias = coefficient (extract_h (L_shl s (pos (norm_l s)))) (sub bias (pos (norm_l s)))

abbrev pub negated : ScaledWord → ScaledWord
negated c = coefficient (negate c.word) c.exponent

-- g_coeff: <y1, y1>, and -2 <xn, y1> with its exponent one up
abbrev pub yy_coefficient : PitchGain → ScaledWord
yy_coefficient g = g.yy

abbrev pub xy_coefficient : PitchGain → ScaledWord
xy_coefficient g = coefficient (negate g.xy.word) (add g.xy.exponent (pos 1))

-- <y1, y1>, -2 <xn, y1>, <y2, y2>, -2 <xn, y2>, 2 <y1, y2>: the biases are 15 - 18, 15 - 9 + 1 and 15 - 9 + 1
unfoldable pub calc_filt_energies : List ℤ → List ℤ → List ℤ → PitchGain → List ScaledWord
calc_filt_energies xs ys zs g =
    yy_coefficient g ∷ xy_coefficient g ∷ cut (sum zs zs 40) (negsuc 2) ∷ negated (cut (sum xs zs 40) (pos 7))
    ∷ cut (sum ys zs 40) (pos 7) ∷ []

-- ---- Qua_gain, 'determine scaling of the coefficients'
-- what is added to each exponent: -13, -14, 15 and twice exp_code, exp_code, 1 and exp_code, with exp_code = sub (exp_gcode0, 11)
abbrev pub scales : ℤ → List ℤ
scales code = negsuc 12 ∷ negsuc 13 ∷ add (pos 15) (shl code (pos 1)) ∷ code ∷ add (pos 1) code ∷ []

-- a scale added to the exponent
abbrev pub raised : ScaledWord → ℤ → ScaledWord
raised c scale = coefficient c.word (add c.exponent scale)

-- 'exp_max'
unfoldable pub exp_max : List ScaledWord → List ℤ → List ScaledWord
exp_max [] ss = []
exp_max (c ∷ cs) [] = []
exp_max (c ∷ cs) (s ∷ ss) = raised c s ∷ exp_max cs ss

-- 'e_max': the greatest exponent
unfoldable pub e_max : ℤ → List ScaledWord → ℤ
e_max m [] = m
e_max m (c ∷ cs) = e_max (cond (lt_z m c.exponent) c.exponent m) cs

-- 'L_tmp = L_deposit_h (frac_coeff[i]); L_tmp = L_shr (L_tmp, sub (e_max, exp_max[i]))': a shift to the right by a count is one to the left by its negative
unfoldable pub levelled : ℤ → ScaledWord → ℤ
levelled top c = L_shl (L_deposit_h c.word) (sub c.exponent top)

-- 'e_max = add (e_max, 1)', which leaves room for one carry
unfoldable pub on_one_scale : List ScaledWord → List ℤ
on_one_scale [] = []
on_one_scale (c ∷ cs) = map (levelled (add (e_max c.exponent cs) (pos 1))) (c ∷ cs)

-- the five coefficients, for the innovation's eighths
unfoldable pub coefficients : List ℤ → List ℤ → List ℤ → PitchGain → ℤ → List ℤ
coefficients xs ys zs g code = on_one_scale (exp_max (calc_filt_energies xs ys zs g) (scales code))

-- 02, request 09: with 'its three others', the counts of the three sums of the innovation
unfoldable pub counted_coefficients : List ℤ → List ℤ → List ℤ → PitchGain → ℤ → CountedCoefficients
counted_coefficients xs ys zs g code =
    record {
      list = coefficients xs ys zs g code;
      clips = record { energy = clips zs zs 40; target = clips xs zs 40; adaptive = clips ys zs 40 };
    }
