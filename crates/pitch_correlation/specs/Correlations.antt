-- TS 26.073 Norm_Corr: the target against the excitation filtered at each lag, over the root of that list's energy.
use Rattle.std.specs.Prelude.{Bool, cond, ◌&&◌, List, ℕ, zero, suc, ◌+◌, ◌-◌, ltb, leb, eqb, ℤ, pos, negsuc, length, replicate}
use Rattle.std.specs.Int.Signed.{lt_z}
use Rattle.fixed.specs.Operators.{add, L_mult, L_shl, shl, extract_h, Mpy_32}
use Rattle.fixed.specs.Lists.{at, tabulate, part, shifted, between, dot}
use Rattle.energy.specs.Root.{Inv_sqrt}
use Rattle.pitch_convolution.specs.Filters.{Convolve}

-- Norm_Corr, 'scale "excf[]" to avoid overflow': the filtered list of the first lag decides for all. Above an energy of 2 ^ 26, words are shifted right by 2
unfoldable pub loud : List ℤ → Bool
loud fs = lt_z (pos 67108864) (dot fs fs 40)

-- Norm_Corr, scaled_excf: shr (v, 2) where the list is loud
abbrev pub scaled : Bool → ℤ → ℤ
scaled l v = cond l (shl v (negsuc 1)) v

-- and so every word of it
unfoldable pub scaled_all : Bool → List ℤ → List ℤ
scaled_all l fs = cond l (shifted fs (negsuc 1) 40) fs

-- Norm_Corr, 'modify the filtered excitation excf[] for the next iteration': the first word is the sample that comes in, each other its neighbour and the sample's part; h_fac is 3, or 1 where words are scaled
unfoldable pub update_at : Bool → List ℤ → ℤ → List ℤ → ℕ → ℤ
update_at l hs sample fs zero = scaled l sample
update_at l hs sample fs (suc j) = add (extract_h (L_shl (L_mult sample (at hs (suc j))) (pos (cond l 1 3)))) (at fs j)

-- and so the list one lag on
unfoldable pub update : Bool → List ℤ → ℤ → List ℤ → List ℤ
update l hs sample fs = tabulate (update_at l hs sample fs) 40

-- Norm_Corr: the filtered list k lags after the first lag: Convolve at the first, then each from the one before it
unfoldable pub filtered : Bool → List ℤ → List ℤ → ℕ → List ℤ → ℕ → List ℤ
filtered l exc hs low fs zero = scaled_all l fs
filtered l exc hs low fs (suc k) = update l hs (at exc (154 - (low + suc k))) (filtered l exc hs low fs k)

-- Norm_Corr, 'Normalize correlation': Mpy_32 of the clipped sum against the target and of 1 / sqrt (energy)
unfoldable pub normalized : List ℤ → List ℤ → ℤ
normalized target fs = extract_h (L_shl (Mpy_32 (dot fs target 40) (Inv_sqrt (dot fs fs 40))) (pos 16))

-- Norm_Corr, corr_norm[lag]
unfoldable pub correlation_at : Bool → List ℤ → List ℤ → List ℤ → ℕ → List ℤ → ℕ → ℤ
correlation_at l exc target hs low first lag = normalized target (filtered l exc hs low first (lag - low))

-- corr_norm[] by the lag, from low up to, and without, end; every other place is 0. A search fills places between 16 and 147
unfoldable pub correlations_from : List ℤ → List ℤ → List ℤ → List ℤ → ℕ → ℕ → List ℤ
correlations_from first exc target hs low end = tabulate (between (correlation_at (loud first) exc target hs low first) (λ k. pos 0) low end) 148

-- Norm_Corr from its start: the excitation's subframe starts at place 154, and the first lag's words `low` places before it
unfoldable pub correlations : List ℤ → List ℤ → List ℤ → ℕ → ℕ → List ℤ
correlations exc target hs low end = correlations_from (Convolve (part exc (154 - low) 40) hs) exc target hs low end

-- lists of 194, 40 and 40 words, and at least one lag from low up to, and without, end, none above 147: so asks every search, from lag 16 up
abbrev pub asked : List ℤ → List ℤ → List ℤ → ℕ → ℕ → Bool
asked exc target hs low end = eqb (length exc) 194 && eqb (length target) 40 && eqb (length hs) 40 && ltb low end && leb end 148

-- Norm_Corr for every list and every two lags: all 0 where it is not so asked
unfoldable pub Norm_Corr : List ℤ → List ℤ → List ℤ → ℕ → ℕ → List ℤ
Norm_Corr exc target hs low end = cond (asked exc target hs low end) (correlations exc target hs low end) (replicate 148 (pos 0))
