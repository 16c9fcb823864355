-- TS 26.073 Pitch_fr, 'Find integer pitch' and searchFrac: the choice of a whole lag and of a fraction.
use Rattle.std.specs.Prelude.{Bool, cond, ◌&&◌, List, [], ◌∷◌, ℕ, zero, suc, ◌+◌, ◌-◌, ◌*◌, ltb, leb, ℤ, pos, negsuc}
use Rattle.std.specs.Int.Signed.{lt_z, le_z}
use Rattle.fixed.specs.Operators.{L_mac, round}
use Rattle.fixed.specs.Lists.{at, best}
use Rattle.pitch.specs.declared.Fraction.TheVariants.{MinusThird, Zero, PlusThird}
use Rattle.pitch.specs.declared.PitchLag.{PitchLag}

-- the 25 interpolator constants of the search (inter_36.tab)
unfoldable pub interpolator : List ℤ
interpolator =
    pos 29519 ∷ pos 28316 ∷ pos 24906 ∷ pos 19838 ∷ pos 13896 ∷ pos 7945 ∷ pos 2755 ∷ negsuc 1126 ∷ negsuc 3458 ∷ negsuc 4303 ∷ negsuc 3968 ∷ negsuc 2898 ∷ negsuc 1560
    ∷ negsuc 335 ∷ pos 534 ∷ pos 970 ∷ pos 1023 ∷ pos 823 ∷ pos 516 ∷ pos 220 ∷ pos 0 ∷ negsuc 130 ∷ negsuc 193 ∷ negsuc 214 ∷ pos 0 ∷ []

-- Interpol_3or6 at a place of the correlations, `phase` sixths up: the first n of four pairs of terms
unfoldable pub interpolated_to : List ℤ → ℕ → ℕ → ℕ → ℤ
interpolated_to cs place phase zero = pos 0
interpolated_to cs place phase (suc n) =
    L_mac (L_mac (interpolated_to cs place phase n) (at cs (place - n)) (at interpolator (phase + 6 * n)))
    (at cs (place + 1 + n)) (at interpolator (6 - phase + 6 * n))

-- Interpol_3or6 with all four pairs, rounded
unfoldable pub Interpol_6 : List ℤ → ℕ → ℕ → ℤ
Interpol_6 cs place phase = round (interpolated_to cs place phase 4)

-- searchFrac: the fractions −2 to 2 are the steps 0 to 4, two sixths each; one below 0 is seen from the place before
unfoldable pub step_value : List ℤ → ℕ → ℕ → ℤ
step_value cs lag zero = Interpol_6 cs (lag - 1) 2
step_value cs lag (suc zero) = Interpol_6 cs (lag - 1) 4
step_value cs lag (suc (suc k)) = Interpol_6 cs lag (2 * k)

-- Pitch_fr, 'Find integer pitch'; 01: 'Larger lag wins a tie'. The greatest of the n + 1 lags from start on
unfoldable pub best_lag : List ℤ → ℕ → ℕ → ℕ
best_lag cs start n = best le_z (at cs) start n

-- 01: 'Then fractions −2 to 2, the earlier kept on a tie': the greatest of the steps 0 to n
unfoldable pub best_step : List ℤ → ℕ → ℕ → ℕ
best_step cs lag n = best lt_z (step_value cs lag) 0 n

-- 01: '−2 becomes +1 with one lag less, 2 becomes −1 with one more'
abbrev pub settled : ℕ → ℕ → PitchLag
settled lag zero = record { samples = lag - 1; fraction = PlusThird }
settled lag (suc zero) = record { samples = lag; fraction = MinusThird }
settled lag (suc (suc zero)) = record { samples = lag; fraction = Zero }
settled lag (suc (suc (suc zero))) = record { samples = lag; fraction = PlusThird }
settled lag (suc (suc (suc (suc k)))) = record { samples = lag + 1; fraction = MinusThird }

-- 01: 'except that an absolute lag above 84 keeps fraction 0'
abbrev pub step_of : Bool → List ℤ → ℕ → ℕ
step_of absolute cs lag = cond (absolute && ltb 84 lag) 2 (best_step cs lag 4)

-- Pitch_fr: the whole lag, then the fraction
unfoldable pub chosen : Bool → List ℤ → ℕ → ℕ → PitchLag
chosen absolute cs start span = let lag = best_lag cs start span in settled lag (step_of absolute cs lag)

-- the same for every start and span: lag 0 where some of the lags are below 20 or above 143
unfoldable pub choose : Bool → List ℤ → ℕ → ℕ → PitchLag
choose absolute cs start span =
    cond (leb 20 start && leb (start + span) 143) (chosen absolute cs start span) (record { samples = 0; fraction = Zero })
