-- 01, 'Sharpening runs in place': 'Include fixed-gain pitch contribution' of code_4i40_17bits.
use Rattle.std.specs.Prelude.{List, ℕ, zero, suc, ◌+◌, ◌-◌, ℤ, pos, set}
use Rattle.fixed.specs.Operators.{add, shl, mult}
use Rattle.fixed.specs.Lists.{at}
use Rattle.codebook_sharpening.specs.declared.SharpeningGain.{SharpeningGain}

-- 01: 'The gain is doubled with clipping': Q14 as Q15
unfoldable pub doubled : SharpeningGain → ℤ
doubled gain = shl gain.0 (pos 1)

-- 01: 'the word there gains floor(W × doubled gain / 32768), where W is the word now lag places earlier'; 'The floor is itself clipped to a word before it is added, and the sum is clipped'
unfoldable pub raised : List ℤ → ℕ → ℤ → ℕ → List ℤ
raised xs lag sharp n = set xs (lag + n) (add (at xs (lag + n)) (mult (at xs n) sharp))

-- 'from place = lag up': the first n of these places
unfoldable pub sharpened_to : List ℤ → ℕ → ℤ → ℕ → List ℤ
sharpened_to xs lag sharp zero = xs
sharpened_to xs lag sharp (suc n) = raised (sharpened_to xs lag sharp n) lag sharp n

-- and all of them
unfoldable pub sharpened : List ℤ → ℕ → ℤ → List ℤ
sharpened xs lag sharp = sharpened_to xs lag sharp (40 - lag)
