-- TS 26.073 Weight_Ai and Residu: a filter of ten coefficients in Q12 after one at place 0, which an encoder sets to 1; nothing here rests on it.
use Rattle.std.specs.Prelude.{cond, ◌&&◌, List, ℕ, zero, suc, ◌+◌, ◌-◌, eqb, ℤ, pos, length, replicate}
use Rattle.fixed.specs.Operators.{L_mult, L_shl, round}
use Rattle.fixed.specs.Lists.{at, tabulate, L_sum}

-- Weight_Ai: a coefficient by its factor; place 0 stays
unfoldable pub weighted_at : List ℤ → List ℤ → ℕ → ℤ
weighted_at cs factors zero = at cs zero
weighted_at cs factors (suc k) = round (L_mult (at cs (suc k)) (at factors k))

-- and so the eleven: A(z / gamma), from the powers of gamma
unfoldable pub Weight_Ai : List ℤ → List ℤ → List ℤ
Weight_Ai cs factors = tabulate (weighted_at cs factors) 11

-- Residu: the first n products that sample i sums. The ten samples before the first stand in front, so sample i has place 10 + i
unfoldable pub taps_to : List ℤ → List ℤ → ℕ → ℕ → ℤ
taps_to cs xs i n = L_sum (pos 0) (λ tap. L_mult (at xs (10 + i - tap)) (at cs tap)) n

-- Residu: the sum of eleven, shifted to the left by 3, rounded
unfoldable pub residual_at : List ℤ → List ℤ → ℕ → ℤ
residual_at cs xs i = round (L_shl (taps_to cs xs i 11) (pos 3))

-- A(z): a subframe's 40 samples
unfoldable pub Residu : List ℤ → List ℤ → List ℤ
Residu cs xs = tabulate (residual_at cs xs) 40

-- Residu by eleven, of the ten samples before a subframe and its 40, for every list: all 0 where one has another length
unfoldable pub filtered : List ℤ → List ℤ → List ℤ
filtered cs xs = cond (eqb (length cs) 11 && eqb (length xs) 50) (Residu cs xs) (replicate 40 (pos 0))
