-- How great the sum of Syn_filt can get: what the contracts of the private functions cite that look whether it can be clipped at all.
use Rattle.std.specs.Prelude.{ℕ, zero, suc, ◌+◌, ◌-◌, ◌*◌, ◌≤◌, ◌<◌, List, ℤ, nat_abs}
use Rattle.fixed.specs.Lists.{at}

-- the magnitudes of the n coefficients after place 0
unfoldable pub magnitudes : List ℤ → ℕ → ℕ
magnitudes cs zero = 0
magnitudes cs (suc n) = magnitudes cs n + nat_abs (at cs (suc n))

-- the magnitudes of the first n products with what was put out before `place`
unfoldable pub weighed : List ℤ → List ℤ → ℕ → ℕ → ℕ
weighed cs ys place zero = 0
weighed cs ys place (suc n) = weighed cs ys place n + nat_abs (at cs (suc n)) * nat_abs (at ys (place - suc n))

-- no one of the first n samples is above a peak
abbrev pub Below : List ℤ → ℕ → ℕ → Type 0
Below ys n peak = (k : ℕ) → k < n → nat_abs (at ys k) ≤ peak
