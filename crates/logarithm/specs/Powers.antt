-- TS 26.073 Pow2: take the table's entry, draw the straight line to the next, shift down with rounding.
use Rattle.std.specs.Prelude.{List, [], ◌∷◌, ℕ, zero, suc, ◌+◌, ◌-◌, ◌*◌, ◌/◌, ◌%◌, ◌^◌, ℤ, pos}
use Rattle.fixed.specs.Line.{table_line}
use Rattle.refusal.specs.Refused.{Told, values, refused}
use Rattle.refusal.specs.Checks.{checked, power_exponent, power_fraction}

-- 2 ^ (k / 32) in Q14
unfoldable pub pow2_table : List ℕ
pow2_table = 16384 ∷ 16743 ∷ 17109 ∷ 17484 ∷ 17867 ∷ 18258 ∷ 18658 ∷ 19066 ∷ 19484 ∷ 19911 ∷ 20347 ∷ 20792 ∷ 21247 ∷ 21713 ∷ 22188 ∷ 22674 ∷ 23170 ∷ 23678 ∷ 24196 ∷ 24726 ∷ 25268 ∷ 25821 ∷ 26386 ∷ 26964 ∷ 27554 ∷ 28158 ∷ 28774 ∷ 29405 ∷ 30048 ∷ 30706 ∷ 31379 ∷ 32066 ∷ 32767 ∷ []

-- L_shr_r: v / 2 ^ n, a half rounded up
unfoldable pub shr_r : ℕ → ℕ → ℕ
shr_r v zero = v
shr_r v (suc n) = v / 2 ^ suc n + v / 2 ^ n % 2

-- the value, for an exponent up to 30 and a fraction up to 32767
unfoldable pub power : ℕ → ℕ → ℕ
power exponent fraction = shr_r (table_line pow2_table 0 (fraction * 32768)) (30 - exponent)

-- `pow2`: 01, number 7, the exponent; then 02, number 14, the fraction
unfoldable pub Pow2 : ℕ → ℕ → Told ℤ
Pow2 exponent fraction = checked (power_exponent exponent ∷ power_fraction fraction ∷ []) refused (values (pos (power exponent fraction)))
