-- TS 26.073 cor_h_x at 7.4 kbit/s: the target's correlation with the impulse, normalised.
use Rattle.std.specs.Prelude.{cond, List, ℕ, zero, suc, ◌+◌, ◌-◌, ◌*◌, ℤ, pos, negsuc}
use Rattle.std.specs.Int.Signed.{lt_z}
use Rattle.fixed.specs.Operators.{sub, L_abs, L_mult, L_shl, round, norm_l}
use Rattle.fixed.specs.Lists.{at, tabulate, L_sum}

-- 's = L_mac (s, x[j], h[j - i])': the target from place i on against the impulse
unfoldable pub correlated : List ℤ → List ℤ → ℕ → ℤ
correlated xs hs i = L_sum (pos 0) (λ k. L_mult (at xs (i + k)) (at hs k)) (40 - i)

-- the greater of two
abbrev pub greater : ℤ → ℤ → ℤ
greater a b = cond (lt_z a b) b a

-- the greatest magnitude at the first n places of a track; 01: 'Track t holds places t, t + 5, .. t + 35'
unfoldable pub greatest : List ℤ → ℕ → ℕ → ℤ
greatest raw track zero = pos 0
greatest raw track (suc n) = greater (greatest raw track n) (L_abs (at raw (track + 5 * n)))

-- 'tot': 5, and half of each track's greatest
unfoldable pub total : List ℤ → ℤ
total raw = L_sum (pos 5) (λ t. L_shl (greatest raw t 8) (negsuc 0)) 5

-- 'j = sub (norm_l (tot), sf)' with sf = 1, and each sum so shifted and rounded
unfoldable pub normalised : List ℤ → List ℤ
normalised raw = tabulate (λ i. round (L_shl (at raw i) (sub (pos (norm_l (total raw))) (pos 1)))) 40

-- cor_h_x
unfoldable pub cor_h_x : List ℤ → List ℤ → List ℤ
cor_h_x xs hs = normalised (tabulate (correlated xs hs) 40)
