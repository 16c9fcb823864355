-- What stands at a place of a list: of a part of it, and of one that is written at a place.
use mathlib.Core.Path.{◌≡◌, refl, ap}
use mathlib.Core.List.{List, [], ◌∷◌}
use mathlib.Core.Logic.{◌⊎◌, inl, inr}
use Prim.Native.Nat.{ℕ, zero, suc, ◌+◌, ◌<◌}
use native.Mathlib.Omega.{arith}
use lib.ListN.{length, drop, take, set}
use Rattle.std.specs.Prelude.{Option, Some, None, slice_get}
use Rattle.dispatch.specs.Services.{alter}

pub none_some : {A X : Type 0} {a : A} → None ≡ Some a → X
none_some e = let z : ◌≡◌ {A = ℕ} 0 1 = cc in absurd (omega arith)

module _ {R : Type 0} where
  -- of what is left of a list
  pub at_drop : (n k m : ℕ) (cs : List R) → m ≡ n + k → slice_get (drop n cs) k ≡ slice_get cs m
  at_drop zero k m cs e = let h : m ≡ k = omega (arith, e) in rw h
  at_drop (suc n) k zero cs e = absurd (omega (arith, e))
  at_drop (suc n) k (suc m) [] e = refl
  at_drop (suc n) k (suc m) (c ∷ cs) e = let h : m ≡ n + k = omega (arith, e) in at_drop n k m cs h

  -- and of its first n
  pub at_take : (n k : ℕ) (cs : List R) → k < n → slice_get (take n cs) k ≡ slice_get cs k
  at_take zero k cs l = absurd (omega (arith, l))
  at_take (suc n) k [] l = refl
  at_take (suc n) zero (c ∷ cs) l = refl
  at_take (suc n) (suc k) (c ∷ cs) l = let h : k < n = omega (arith, l) in at_take n k cs h

  pub in_take : (n k : ℕ) (cs : List R) (r : R) → slice_get (take n cs) k ≡ Some r → k < n
  in_take zero k cs r e = none_some e
  in_take (suc n) k [] r e = none_some e
  in_take (suc n) zero (c ∷ cs) r e = omega arith
  in_take (suc n) (suc k) (c ∷ cs) r e = let h : k < n = in_take n k cs r e in omega (arith, h)

  -- a list is written at one place
  pub at_set : (cs : List R) (j : ℕ) (r q : R) → slice_get cs j ≡ Some q → slice_get (set cs j r) j ≡ Some r
  at_set [] j r q e = none_some e
  at_set (c ∷ cs) zero r q e = refl
  at_set (c ∷ cs) (suc j) r q e = at_set cs j r q e

  pub beside_set : (cs : List R) (j k : ℕ) (r : R) → (j ≡ k → ⊥) → slice_get (set cs j r) k ≡ slice_get cs k
  beside_set [] j k r n = refl
  beside_set (c ∷ cs) zero zero r n = absurd (n refl)
  beside_set (c ∷ cs) zero (suc k) r n = refl
  beside_set (c ∷ cs) (suc j) zero r n = refl
  beside_set (c ∷ cs) (suc j) (suc k) r n = beside_set cs j k r (λ e. n (ap suc e))

  -- or one record of it is changed: each record is as it was, or changed
  pub altered_length : (f : R → R) (i : ℕ) (cs : List R) → length (alter f i cs) ≡ length cs
  altered_length f i [] = refl
  altered_length f zero (c ∷ cs) = refl
  altered_length f (suc i) (c ∷ cs) = ap suc (altered_length f i cs)

  pub altered_at : (f : R → R) (i k : ℕ) (cs : List R) (r : R) → slice_get cs k ≡ Some r →
      (slice_get (alter f i cs) k ≡ Some r) ⊎ (slice_get (alter f i cs) k ≡ Some (f r))
  altered_at f i k [] r e = inl e
  altered_at f zero zero (c ∷ cs) r e = inr (ap (λ (o : Option R). changed o) e)
    where
      changed : Option R → Option R
      changed None = None
      changed (Some a) = Some (f a)
  altered_at f zero (suc k) (c ∷ cs) r e = inl e
  altered_at f (suc i) zero (c ∷ cs) r e = inl e
  altered_at f (suc i) (suc k) (c ∷ cs) r e = altered_at f i k cs r e
