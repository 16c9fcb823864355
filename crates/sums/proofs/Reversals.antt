-- The impulse reversed: the sums of 40 products each that the plain way takes are those of Convolve.
use mathlib.Core.Path.{◌≡◌, refl, sym, ap, ◌∙◌}
use mathlib.Core.Bool.{Bool, true, false}
use mathlib.Core.List.{List}
use Prim.Native.Nat.{ℕ, suc, ◌+◌, ◌-◌, ◌^◌, ◌≤◌, ◌<◌}
use native.Mathlib.Omega.{arith}
use lib.Dec.{ltb}
use lib.IntN.{ℤ, pos, ◌*ℤ◌, *ℤ-zero}
use lib.ListN.{get_or-eq_default}
use borrow.Author.Tests.{le-leb, lt-ltb, le-ltb, ltb-true, ltb-false}
use Rattle.fixed.specs.Lists.{at, tabulate, between}
use Rattle.fixed.proofs.Lists.{length_tabulate, at_tabulate}
use Rattle.sums.specs.Plain.{plain, weighed}
use Rattle.sums.proofs.Quiet.{plain_same, plain_silent}
use Rattle.sums.proofs.Reaches.{never_clipped, weighed_same, weighed_silent}
use Rattle.sums.specs.Convolutions.{convolution}

-- from the last word to the first, and zeros
abbrev pub reversal : List ℤ → ℕ → ℤ
reversal hs = between (λ j. at hs (39 - j)) (λ j. pos 0) 0 40

module _ (xs hs : List ℤ) (n : ℕ) (l : n < 40) where
  -- the factors of the input's words at place n
  abbrev pub factor : ℕ → ℤ
  factor k = at (tabulate (reversal hs) 80) (39 - n + k)

  -- those of Convolve
  abbrev pub own : ℕ → ℤ
  own k = at hs (n - k)

  factor_own : (k : ℕ) → k < suc n → factor k ≡ own k
  factor_own k h =
      let e : 39 - (39 - n + k) ≡ n - k = omega arith in
      at_tabulate (reversal hs) (pos 0) 80 (39 - n + k) (omega arith)
      ∙ rw (le-leb 0 (39 - n + k) (omega arith), lt-ltb (39 - n + k) 40 (omega arith)) (ap (at hs) e)

  -- and zeros after them
  factor_past : (k : ℕ) → suc n ≤ k → factor k ≡ pos 0
  factor_past k h = go (ltb (39 - n + k) 80) refl
    where
      go : (t : Bool) → ltb (39 - n + k) 80 ≡ t → factor k ≡ pos 0
      go true e =
          at_tabulate (reversal hs) (pos 0) 80 (39 - n + k) (ltb-true (39 - n + k) 80 e)
          ∙ rw (le-leb 0 (39 - n + k) (omega arith), le-ltb (39 - n + k) 40 (omega arith))
      go false e =
          get_or-eq_default (tabulate (reversal hs) 80) (pos 0) {n = 39 - n + k} (omega (arith, ltb-false (39 - n + k) 80 e, length_tabulate (reversal hs) (pos 0) 80))

  all : suc n + (39 - n) ≡ 40
  all = omega arith

  pub weighed_reversed : weighed (at xs) factor 40 ≡ weighed (at xs) own (suc n)
  weighed_reversed =
      rw (← all) (weighed_silent (at xs) factor (suc n) (39 - n) factor_past) ∙ weighed_same (at xs) factor (at xs) own (suc n) (λ k h. refl) factor_own

  plain_reversed : plain (at xs) factor 40 ≡ plain (at xs) own (suc n)
  plain_reversed =
      rw (← all) (plain_silent (at xs) factor (suc n) (39 - n) (λ k h. rw (factor_past k h) (*ℤ-zero (at xs k))))
      ∙ plain_same (at xs) factor (at xs) own (suc n) (λ k h. refl) factor_own

  pub sum_reversed : weighed (at xs) own (suc n) < 2 ^ 30 → pos 2 *ℤ plain (at xs) factor 40 ≡ convolution xs hs n
  unfolding convolution
  sum_reversed h = ap (λ (z : ℤ). pos 2 *ℤ z) plain_reversed ∙ sym (never_clipped (at xs) own (suc n) h)
