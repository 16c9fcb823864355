-- TS 26.073 Log2: normalise, take the table's entry, draw the straight line to the next.
use Rattle.std.specs.Prelude.{List, [], ◌∷◌, ℕ, ◌/◌, ℤ}
use Rattle.fixed.specs.Operators.{normal, exponent, positive_or}
use Rattle.fixed.specs.Line.{table_line}
use Rattle.logarithm.specs.declared.Logarithm.{Logarithm}

-- log2 (1 + k / 32) in Q15
unfoldable pub log2_table : List ℕ
log2_table = 0 ∷ 1455 ∷ 2866 ∷ 4236 ∷ 5568 ∷ 6863 ∷ 8124 ∷ 9352 ∷ 10549 ∷ 11716 ∷ 12855 ∷ 13967 ∷ 15054 ∷ 16117 ∷ 17156 ∷ 18172 ∷ 19167 ∷ 20142 ∷ 21097 ∷ 22033 ∷ 22951 ∷ 23852 ∷ 24735 ∷ 25603 ∷ 26455 ∷ 27291 ∷ 28113 ∷ 28922 ∷ 29716 ∷ 30497 ∷ 31266 ∷ 32023 ∷ 32767 ∷ []

-- Log2 of a positive number: the exponent of its highest bit, and the high word of the line
unfoldable pub log2_of : ℕ → Logarithm
log2_of n = record { exponent = exponent n; fraction_q15 = table_line log2_table 32 (normal n) / 65536 }

-- Log2: 0, 0 for 0 and below
unfoldable pub Log2 : ℤ → Logarithm
Log2 v = positive_or (record { exponent = 0; fraction_q15 = 0 }) log2_of v
