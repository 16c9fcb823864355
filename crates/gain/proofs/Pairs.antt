-- 02, request 06: the gain entry gives number 7 for the exponent and nothing else, number 14 for the fraction and nothing else.
use mathlib.Core.Path.{◌≡◌, refl}
use mathlib.Core.Bool.{true, false}
use mathlib.Core.List.{List, [], ◌∷◌}
use mathlib.Core.Logic.{inl, inr}
use Prim.Native.Nat.{ℕ, ◌<◌}
use native.Mathlib.Omega.{arith}
use lib.Dec.{leb}
use lib.IntN.{ℤ, pos}
use Rattle.refusal.specs.Refused.{refused}
use Rattle.refusal.specs.Checks.{Check, predicted_exponent, power_fraction}
use Rattle.refusal.proofs.Checkings.{GivenBy, given_by}
use Rattle.refusal.proofs.Pairs.{by_exponent, by_fraction}
use Rattle.gain_limit.specs.Limits.{gp_limit}
use Rattle.gain.specs.Rows.{Qua_gain, gain_checks, quantize}

module _ (xs ys zs : List ℤ) (exponent : ℤ) (fraction choice : ℕ) (d : ℤ) where
  abbrev pair : List Check
  pair = predicted_exponent exponent ∷ power_fraction fraction ∷ []

  -- the checks before the pair's have the numbers 1 and 2
  behind : (n : ℕ) → 2 < n → GivenBy (gain_checks xs ys zs exponent fraction choice) n d → GivenBy pair n d
  behind n h (inl (bad, e, same)) = absurd (omega (arith, e, h))
  behind n h (inr (good, inl (bad, e, same))) = absurd (omega (arith, e, h))
  behind n h (inr (good, inr (good₂, inl (bad, e, same)))) = absurd (omega (arith, e, h))
  behind n h (inr (good, inr (good₂, inr (good₃, inl (bad, e, same))))) = absurd (omega (arith, e, h))
  behind n h (inr (good, inr (good₂, inr (good₃, inr (good₄, rest))))) = rest

  given : (n : ℕ) → 2 < n → quantize xs ys zs exponent fraction choice ≡ refused n d → GivenBy pair n d
  unfolding quantize
  given n h e =
      behind n h (given_by (Qua_gain xs ys zs exponent fraction (gp_limit choice)) n d (gain_checks xs ys zs exponent fraction choice) e)

  pub refused_by_7 : quantize xs ys zs exponent fraction choice ≡ refused 7 d → ((predicted_exponent exponent).passes ≡ false) × (exponent ≡ d)
  refused_by_7 e = by_exponent (predicted_exponent exponent) refl fraction d (given 7 (omega arith) e)

  pub refused_by_14 : quantize xs ys zs exponent fraction choice ≡ refused 14 d →
      ((predicted_exponent exponent).passes ≡ true) × (leb fraction 32767 ≡ false) × (pos fraction ≡ d)
  refused_by_14 e = by_fraction (predicted_exponent exponent) refl fraction d (given 14 (omega arith) e)
