-- 02, request 06: `pow2` gives number 7 for the exponent and nothing else, number 14 for the fraction and nothing else.
use mathlib.Core.Path.{◌≡◌, refl}
use mathlib.Core.Bool.{true, false}
use mathlib.Core.List.{List, [], ◌∷◌}
use Prim.Native.Nat.{ℕ}
use lib.Dec.{leb}
use lib.IntN.{ℤ, pos}
use Rattle.refusal.specs.Refused.{refused}
use Rattle.refusal.specs.Checks.{Check, power_exponent, power_fraction}
use Rattle.refusal.proofs.Checkings.{given_by}
use Rattle.refusal.proofs.Pairs.{by_exponent, by_fraction}
use Rattle.logarithm.specs.Powers.{power, Pow2}

module _ (exponent fraction : ℕ) (d : ℤ) where
  abbrev checks : List Check
  checks = power_exponent exponent ∷ power_fraction fraction ∷ []

  pub refused_by_7 : Pow2 exponent fraction ≡ refused 7 d → (leb exponent 30 ≡ false) × (pos exponent ≡ d)
  unfolding Pow2
  refused_by_7 e = by_exponent (power_exponent exponent) refl fraction d (given_by (pos (power exponent fraction)) 7 d checks e)

  pub refused_by_14 : Pow2 exponent fraction ≡ refused 14 d → (leb exponent 30 ≡ true) × (leb fraction 32767 ≡ false) × (pos fraction ≡ d)
  unfolding Pow2
  refused_by_14 e = by_fraction (power_exponent exponent) refl fraction d (given_by (pos (power exponent fraction)) 14 d checks e)
