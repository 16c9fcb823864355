-- TS 26.073 cor_h. 01: 'The correlations are a 40 by 40 table of words, row by row'.
use Rattle.std.specs.Prelude.{cond, List, [], ℕ, ◌+◌, ◌-◌, min, max, eqb, ℤ, pos, negsuc, get_or}
use Rattle.std.specs.Int.Signed.{lt_z}
use Rattle.fixed.specs.Operators.{L_mult, mult, L_shl, extract_h, round}
use Rattle.fixed.specs.Lists.{at, tabulate, shifted, L_sum}
use Rattle.energy.specs.Root.{Inv_sqrt}

-- ---- cor_h, 'Scaling for maximum precision'
-- the energy, from 2 on
unfoldable pub energy : List ℤ → ℤ
energy hs = L_sum (pos 2) (λ k. L_mult (at hs k) (at hs k)) 40

-- 'k = extract_h (L_shl (Inv_sqrt (s), 7))', then 'k = 0.99*k'
unfoldable pub gain_of : ℤ → ℤ
gain_of e = mult (extract_h (L_shl (Inv_sqrt (L_shl e (negsuc 0))) (pos 7))) (pos 32440)

-- 'h2[i] = round (L_shl (L_mult (h[i], k), 9))'
unfoldable pub scaled_by : ℤ → List ℤ → List ℤ
scaled_by gain hs = tabulate (λ k. round (L_shl (L_mult (at hs k) gain) (pos 9))) 40

-- 'h2[i] = shr (h[i], 1)'
abbrev pub halved : List ℤ → List ℤ
halved hs = shifted hs (negsuc 0) 40

-- 'if (j == 0)': halves where the high word of the energy is the greatest that there is, 32767
unfoldable pub normalised : List ℤ → List ℤ
normalised hs = cond (lt_z (extract_h (energy hs)) (pos 32767)) (scaled_by (gain_of (energy hs)) hs) (halved hs)

-- ---- 'build matrix rr[]'
-- the impulse against itself, `distance` places later: the first n products
unfoldable pub products : List ℤ → ℕ → ℕ → ℤ
products ns distance n = L_sum (pos 0) (λ k. L_mult (at ns k) (at ns (k + distance))) n

-- 'rr[j][i] = mult (round (s), mult (sign[i], sign[j]))'; on the diagonal there are no signs
abbrev pub signed : List ℤ → ℕ → ℕ → ℤ → ℤ
signed signs i j v = cond (eqb i j) v (mult v (mult (at signs i) (at signs j)))

-- entry (i, j): as many products as fit after the later of the two places
unfoldable pub entry : List ℤ → List ℤ → ℕ → ℕ → ℤ
entry ns signs i j = signed signs i j (round (products ns (max i j - min i j) (40 - max i j)))

-- row i
unfoldable pub row : List ℤ → List ℤ → ℕ → List ℤ
row ns signs i = tabulate (entry ns signs i) 40

-- and all rows
unfoldable pub correlations : List ℤ → List ℤ → List (List ℤ)
correlations ns signs = tabulate (row ns signs) 40

-- cor_h
unfoldable pub cor_h : List ℤ → List ℤ → List (List ℤ)
cor_h hs signs = correlations (normalised hs) signs

-- the word at place j of row i
abbrev pub cell : List (List ℤ) → ℕ → ℕ → ℤ
cell m i j = at (get_or m i []) j
