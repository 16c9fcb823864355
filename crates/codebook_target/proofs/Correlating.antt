-- The target's correlation as a convolution: the impulse with the reversed target, from the last place to the first.
use mathlib.Core.Path.{◌≡◌}
use mathlib.Core.List.{List}
use Prim.Native.Nat.{ℕ, suc, ◌+◌, ◌-◌, ◌<◌}
use native.Mathlib.Omega.{arith}
use lib.IntN.{ℤ, pos, *ℤ_comm}
use Rattle.fixed.specs.Operators.{L_mult}
use Rattle.fixed.specs.Lists.{at, tabulate}
use Rattle.fixed.proofs.Lists.{at_tabulate}
use Rattle.sums.specs.Convolutions.{convolution}
use Rattle.sums.proofs.Sums.{sum_same}
use Rattle.codebook_target.specs.Targets.{correlated}

L_mult_comm : (a b : ℤ) → L_mult a b ≡ L_mult b a
unfolding L_mult
L_mult_comm a b = rw (*ℤ_comm a b)

-- the words from the last to the first
abbrev pub reversal : List ℤ → ℕ → ℤ
reversal xs j = at xs (39 - j)

module _ (xs hs : List ℤ) (i : ℕ) (l : i < 40) where
  term : (k : ℕ) → k < 40 - i → L_mult (at hs k) (at (tabulate (reversal xs) 40) (39 - i - k)) ≡ L_mult (at xs (i + k)) (at hs k)
  term k h =
      let e : 39 - (39 - i - k) ≡ i + k = omega arith in
      rw (at_tabulate (reversal xs) (pos 0) 40 (39 - i - k) (omega arith), e) (L_mult_comm (at hs k) (at xs (i + k)))

  pub sum_reversed : convolution hs (tabulate (reversal xs) 40) (39 - i) ≡ correlated xs hs i
  unfolding convolution correlated
  sum_reversed =
      let e : suc (39 - i) ≡ 40 - i = omega arith in
      rw e (sum_same (pos 0) _ _ (40 - i) term)
