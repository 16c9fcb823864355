-- TS 26.073 Qua_gain at 7.4 kbit/s: the row of the table that is nearest.
use Rattle.std.specs.Prelude.{◌≡◌, Bool, true, cond, ◌&&◌, List, [], ◌∷◌, ℕ, zero, suc, ◌<◌, ℤ, pos, ◌≤ℤ◌, ◌<ℤ◌}
use Rattle.std.specs.Int.Signed.{lt_z, le_z}
use Rattle.fixed.specs.Operators.{L_add, mult, Mpy_32_16}
use Rattle.fixed.specs.Lists.{at, tabulate, L_sum}
use Rattle.gain_table.specs.Rows.{pitch, correction}

-- ---- the distance
-- g2_pitch, g_pitch, g2_code, g_code, g_pit_cod
unfoldable pub products : ℤ → ℤ → List ℤ
products pitch code = mult pitch pitch ∷ pitch ∷ mult code code ∷ code ∷ mult code pitch ∷ []

-- one more term: L_add of Mpy_32_16 of a coefficient and a product
unfoldable pub term : ℤ → ℤ → ℤ → ℤ
term s weight product = L_add s (Mpy_32_16 weight product)

-- 01's 'clipped distance': five terms, clipped after every addition
unfoldable pub distance : List ℤ → ℤ → ℤ → ℤ
distance weights pitch code = L_sum (pos 0) (λ k. Mpy_32_16 (at weights k) (at (products pitch code) k)) 5

-- of row i: its correction times gcode0 is the code's gain
unfoldable pub row_distance : List ℤ → ℤ → ℕ → ℤ
row_distance weights g i = distance weights (pitch i) (mult (correction i) g)

unfoldable pub distances : List ℤ → ℤ → List ℤ
distances weights g = tabulate (row_distance weights g) 128

-- ---- the choice
-- row k replaces the row held where it lies within the limit and its distance is below
unfoldable pub nearer : (ℕ → Bool) → (ℕ → ℤ) → ℕ → ℕ → ℕ
nearer within d held k = cond (within k && lt_z (d k) (d held)) k held

-- of rows 0 to n
unfoldable pub nearest : (ℕ → Bool) → (ℕ → ℤ) → ℕ → ℕ
nearest within d zero = 0
nearest within d (suc n) = nearer within d (nearest within d n) (suc n)

-- what that is: 01's 'lowest index of least clipped distance among rows within the limit', of n rows
pub record LowestOfLeast (within : ℕ → Bool) (d : ℕ → ℤ) (n i : ℕ) : Type 0 where
  pub row : i < n
  pub allowed : within i ≡ true
  pub least : (k : ℕ) → k < n → within k ≡ true → d i ≤ℤ d k
  pub lowest : (k : ℕ) → k < i → within k ≡ true → d i <ℤ d k

-- ---- the search
-- 'if (g_pitch <= gp_limit)'
abbrev pub within_limit : ℤ → ℕ → Bool
within_limit limit k = le_z (pitch k) limit

-- the index
unfoldable pub nearest_row : List ℤ → ℤ → ℤ → ℕ
nearest_row ws g limit = nearest (within_limit limit) (at (distances ws g)) 127
