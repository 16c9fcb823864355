-- A list that a function makes place by place, by `array::from_fn`.
use mathlib.Core.Path.{◌≡◌, refl, ◌∙◌}
use mathlib.Core.Bool.{Bool, true, false}
use mathlib.Core.List.{List}
use Prim.Native.Nat.{ℕ, zero, suc, ◌+◌, ◌≤◌, ◌<◌}
use native.Mathlib.Omega.{arith}
use lib.Dec.{eqb}
use lib.ListN.{get_or}
use denote.Param.Members.{Mut, Called}
use borrow.Author.Tests.{eqb-true, eqb-false}
use Rattle.std.specs.Array.{IsFromFnResult, IsFromFnResultFrom}
use Rattle.fixed.specs.Lists.{tabulate}
use Rattle.fixed.proofs.Lists.{filled_all}

module _ {F A : Type 0} (g : Mut F (ℕ × Unit {0}) A) (d : A) (h : ℕ → A) (n : ℕ) (f : F)
    (answers : (k : ℕ) (r : A) (f' : F) → k < n → Called g f (k, tt) r f' → (r ≡ h k) × (f' ≡ f)) where
  made_from : (ys : List A) (i m : ℕ) → i + m ≡ n → IsFromFnResultFrom g f ys i m → (k : ℕ) → i ≤ k → k < n → get_or ys k d ≡ h k
  made_from ys i zero e r k l b = absurd (omega arith)
  made_from ys i (suc m) e (q, y, is, called, rest) k l b =
      let a = answers i y q (omega arith) called in
      go a.0 (λ o. made_from ys (i + 1) m (omega arith) (rw a.1 at rest) k (omega (arith, l, o)) b) (eqb k i) refl
    where
      go : y ≡ h i → ((k ≡ i → ⊥) → get_or ys k d ≡ h k) → (t : Bool) → eqb k i ≡ t → get_or ys k d ≡ h k
      go v other true t = rw (eqb-true k i t) (is.1 d ∙ v)
      go v other false t = other (eqb-false k i t)

  pub made : (ys : List A) → IsFromFnResult g f ys n → ys ≡ tabulate h n
  made ys r = filled_all h d n ys r.long (λ k l. made_from ys 0 n (omega arith) r.each k (omega arith) l)
