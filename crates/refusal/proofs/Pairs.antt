-- 02, request 06: which half of a pair, exponent and fraction, a refusal names. Both entries that take such a pair cite this.
use mathlib.Core.Path.{◌≡◌}
use mathlib.Core.Bool.{true, false}
use mathlib.Core.List.{[], ◌∷◌}
use mathlib.Core.Logic.{inl, inr}
use Prim.Native.Nat.{ℕ}
use native.Mathlib.Omega.{arith}
use lib.Dec.{leb}
use lib.IntN.{ℤ, pos}
use Rattle.refusal.specs.Checks.{Check, power_fraction}
use Rattle.refusal.proofs.Checkings.{GivenBy}

module _ (exponent : Check) (seven : exponent.number ≡ 7) (fraction : ℕ) (d : ℤ) where
  -- number 7: the exponent is bad, and the detail is its own
  pub by_exponent : GivenBy (exponent ∷ power_fraction fraction ∷ []) 7 d → (exponent.passes ≡ false) × (exponent.detail ≡ d)
  by_exponent (inl (bad, n, same)) = (bad, same)
  by_exponent (inr (good, inl (bad, n, same))) = absurd (omega (arith, n))
  by_exponent (inr (good, inr (small, none))) = absurd none

  -- number 14: the exponent is good, the fraction above 32767, and the detail is the fraction
  pub by_fraction : GivenBy (exponent ∷ power_fraction fraction ∷ []) 14 d → (exponent.passes ≡ true) × (leb fraction 32767 ≡ false) × (pos fraction ≡ d)
  by_fraction (inl (bad, n, same)) = absurd (omega (arith, n, seven))
  by_fraction (inr (good, inl (bad, n, same))) = (good, bad, same)
  by_fraction (inr (good, inr (small, none))) = absurd none
