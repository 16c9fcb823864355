-- TS 26.073 Pitch_ol: the lag of 223 words, 143 old ones and a half frame's 80 after them.
use Rattle.std.specs.Prelude.{cond, List, ℕ, ◌-◌, ℤ, pos, negsuc}
use Rattle.std.specs.Int.Signed.{lt_z, le_z}
use Rattle.fixed.specs.Operators.{shl, mult, extract_l, Mpy_32}
use Rattle.fixed.specs.Lists.{at, tabulate, best}
use Rattle.energy.specs.Root.{Inv_sqrt}
use Rattle.open_loop_correlation.specs.Correlations.{products, correlation}
use Rattle.open_loop_sections.specs.declared.Held.{Held}

-- Pitch_ol, 'Scaling of input signal'; 01: 'Total energy at the clip: every word shifted right by 3; below 1048576: left by 3, clipped'
abbrev pub scaled : ℤ → ℤ → ℤ
scaled energy v = cond (le_z (pos 2147483647) energy) (shl v (negsuc 2)) (cond (lt_z energy (pos 1048576)) (shl v (pos 3)) v)

-- and so every word
unfoldable pub scaled_all : List ℤ → List ℤ
scaled_all xs = tabulate (λ k. scaled (products xs 0 0 223) (at xs k)) 223

-- Lag_max, 'compute energy': of the words `lag` places before the new ones
unfoldable pub delayed_energy : List ℤ → ℕ → ℤ
delayed_energy xs lag = products xs (143 - lag) (143 - lag) 80

-- Lag_max, 'max = max/sqrt(energy)'; 02, request 14: 'the long before the cut'
unfoldable pub long_at : List ℤ → ℕ → ℤ
long_at xs lag = Mpy_32 (correlation xs lag) (Inv_sqrt (delayed_energy xs lag))

-- and the cut; 01: 'A section's value is the low 16 bits, read as signed, of the long product'
unfoldable pub value_at : List ℤ → ℕ → ℤ
value_at xs lag = extract_l (long_at xs lag)

-- a lag with its value
abbrev pub held_at : List ℤ → ℕ → Held
held_at xs l = record { lag = l; value = value_at xs l }

-- Lag_max over the lags low to low + span; 01: 'In a section the smaller lag wins a tie'
unfoldable pub Lag_max : List ℤ → ℕ → ℕ → ℕ
Lag_max xs low span = best lt_z (correlation xs) low span

-- Pitch_ol, 'favor small lag'; 01: 'A later section replaces the lag held exactly if floor(27853 × the held section's value / 32768) is below the later section's value'
unfoldable pub favoured : List ℤ → ℕ → ℕ → ℕ
favoured xs held later = cond (lt_z (mult (value_at xs held) (pos 27853)) (value_at xs later)) later held

-- 01: 'Sections 80 to 143, 40 to 79, 20 to 39'
unfoldable pub of_sections : List ℤ → ℕ
of_sections xs = favoured xs (favoured xs (Lag_max xs 80 63) (Lag_max xs 40 39)) (Lag_max xs 20 19)

-- Pitch_ol of the words as they came in
unfoldable pub lag_of : List ℤ → ℕ
lag_of xs = of_sections (scaled_all xs)
