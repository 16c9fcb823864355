-- The place that a search for the best value ends at.
use mathlib.Core.Path.{◌≡◌, refl}
use mathlib.Core.Bool.{Bool, cond}
use Prim.Native.Nat.{ℕ, zero, suc, ◌+◌, ◌≤◌}
use native.Mathlib.Omega.{arith}
use native.Mathlib.Numerals.{add-one}
use lib.IntN.{ℤ}
use Rattle.fixed.specs.Lists.{better, best}
use Rattle.fixed.proofs.Bounds.{either}

module _ (wins : ℤ → ℤ → Bool) where
  -- it is one of those gone through
  pub best_in : (f : ℕ → ℤ) (low n : ℕ) → (low ≤ best wins f low n) × (best wins f low n ≤ low + n)
  unfolding best better
  best_in f low zero = (omega arith, omega arith)
  best_in f low (suc n) =
      let h = best_in f low n in
      either (λ (l : ℕ). (low ≤ l) × (l ≤ low + suc n)) (wins (f (best wins f low n)) (f (low + suc n))) (low + suc n) (best wins f low n)
      (omega arith, omega arith) (h.0, omega arith)

  -- only the values of those count
  pub best_same : (f g : ℕ → ℤ) (low n : ℕ) → ((k : ℕ) → low ≤ k → k ≤ low + n → f k ≡ g k) → best wins f low n ≡ best wins g low n
  unfolding best better
  best_same f g low zero p = refl
  best_same f g low (suc n) p =
      let e = best_same f g low n (λ k h l. p k h (omega arith)) in
      let b = best_in g low n in
      rw (e, p (best wins g low n) b.0 (omega arith), p (low + suc n) (omega arith) (omega arith))

  -- one place more, k
  pub best_more : (f : ℕ → ℤ) (low n k : ℕ) (t : Bool) → k ≡ low + suc n → wins (f (best wins f low n)) (f k) ≡ t →
      best wins f low (n + 1) ≡ cond t k (best wins f low n)
  unfolding best better
  best_more f low n k t e q = rw (add-one n, ← e, q)
