-- The sums of TS 26.073's Convolve; and, where one list is reversed, of its correlations.
use Rattle.std.specs.Prelude.{List, ℕ, suc, ◌-◌, ℤ, pos}
use Rattle.fixed.specs.Operators.{L_mult}
use Rattle.fixed.specs.Lists.{at, L_sum}

-- place n: n + 1 products in the order of the first list, clipped after every addition
unfoldable pub convolution : List ℤ → List ℤ → ℕ → ℤ
convolution xs hs n = L_sum (pos 0) (λ k. L_mult (at xs k) (at hs (n - k))) (suc n)
