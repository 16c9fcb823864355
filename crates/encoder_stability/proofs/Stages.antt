-- A refused stage leaves the watch as it was.
use mathlib.Core.Path.{◌≡◌, ap}
use mathlib.Core.List.{List}
use Prim.Native.Nat.{ℕ}
use lib.IntN.{ℤ}
use Rattle.refusal.specs.Refused.{accepts, refused}
use Rattle.refusal.proofs.Answers.{nothing}
use Rattle.encoder_stability.specs.declared.Stability.{Stability}
use Rattle.encoder_stability.specs.Watch.{watched}

module _ (w : Stability) (xs ys zs : List ℤ) (exponent : ℤ) (fraction : ℕ) (g : ℤ) where
  pub kept_by_refusal : (n : ℕ) (d : ℤ) → (watched w xs ys zs exponent fraction g).answer ≡ refused n d → (watched w xs ys zs exponent fraction g).after ≡ w
  unfolding watched
  kept_by_refusal n d e = nothing w _ (ap accepts e)
