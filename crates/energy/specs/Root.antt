-- TS 26.073 Inv_sqrt: normalise, halve where the exponent is even, take the table's entry, draw the straight line to the next, shift down.
use Rattle.std.specs.Prelude.{cond, List, [], ◌∷◌, ℕ, ◌+◌, ◌/◌, ◌%◌, ◌^◌, eqb, ℤ, pos}
use Rattle.fixed.specs.Operators.{normal, exponent, positive_or}
use Rattle.fixed.specs.Line.{table_line}

-- 1 / sqrt ((16 + k) / 16) in Q15
unfoldable pub inverses : List ℕ
inverses = 32767 ∷ 31790 ∷ 30894 ∷ 30070 ∷ 29309 ∷ 28602 ∷ 27945 ∷ 27330 ∷ 26755 ∷ 26214 ∷ 25705 ∷ 25225 ∷ 24770 ∷ 24339 ∷ 23930 ∷ 23541 ∷ 23170 ∷ 22817 ∷ 22479 ∷ 22155 ∷ 21845 ∷ 21548 ∷ 21263 ∷ 20988 ∷ 20724 ∷ 20470 ∷ 20225 ∷ 19988 ∷ 19760 ∷ 19539 ∷ 19326 ∷ 19119 ∷ 18919 ∷ 18725 ∷ 18536 ∷ 18354 ∷ 18176 ∷ 18004 ∷ 17837 ∷ 17674 ∷ 17515 ∷ 17361 ∷ 17211 ∷ 17064 ∷ 16921 ∷ 16782 ∷ 16646 ∷ 16514 ∷ 16384 ∷ []

-- a mantissa is halved where its exponent e is even, so that half the exponent is whole
abbrev pub halved : ℕ → ℕ → ℕ
halved m e = cond (eqb (e % 2) 0) (m / 2) m

-- of a positive number, with any table
unfoldable pub root_in : List ℕ → ℕ → ℕ
root_in t n = table_line t 16 (halved (normal n) (exponent n)) / 2 ^ (exponent n / 2 + 1)

-- Inv_sqrt with any table: 0x3fffffff for 0 and below
unfoldable pub Inv_sqrt_in : List ℕ → ℤ → ℤ
Inv_sqrt_in t v = positive_or (pos 1073741823) (λ n. pos (root_in t n)) v

-- Inv_sqrt
unfoldable pub Inv_sqrt : ℤ → ℤ
Inv_sqrt v = Inv_sqrt_in inverses v
