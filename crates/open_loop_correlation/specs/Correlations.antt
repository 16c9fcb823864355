-- TS 26.073 comp_corr: 80 new words against those a lag before them, in a list of 143 old words and these 80.
use Rattle.std.specs.Prelude.{cond, List, ℕ, ◌+◌, ◌-◌, leb, ℤ, pos}
use Rattle.fixed.specs.Operators.{L_mult}
use Rattle.fixed.specs.Lists.{at, tabulate, between, L_sum}

-- n words from place a on against those from place b on: L_mac in a loop
unfoldable pub products : List ℤ → ℕ → ℕ → ℕ → ℤ
products xs a b n = L_sum (pos 0) (λ k. L_mult (at xs (a + k)) (at xs (b + k))) n

-- the energy of n words from place a on; 0 where these are not all among the 223
unfoldable pub energy_from : List ℤ → ℕ → ℕ → ℤ
energy_from xs a n = cond (leb (a + n) 223) (products xs a a n) (pos 0)

-- comp_corr: the new words against those `lag` places before them
unfoldable pub correlation : List ℤ → ℕ → ℤ
correlation xs lag = products xs 143 (143 - lag) 80

-- comp_corr, corr[-lag]: by the lag, places 20 to 143 of a list of 144
abbrev pub by_lag : List ℤ → List ℤ
by_lag xs = tabulate (between (correlation xs) (λ k. pos 0) 20 144) 144
