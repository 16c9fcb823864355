-- Sums that grow side by side: place i sums the terms `g i 0`, .., `g i (count i - 1)`, and a loop over the terms gives each sum that still waits for one its next.
use mathlib.Core.Path.{◌≡◌, refl, ap, ◌∙◌}
use mathlib.Core.Bool.{Bool, true, false, cond, ◌&&◌}
use mathlib.Core.List.{List}
use Prim.Native.Nat.{ℕ, suc, ◌+◌, ◌-◌, ◌≤◌, ◌<◌, min}
use native.Mathlib.Omega.{arith}
use lib.Dec.{leb, ltb}
use lib.IntN.{ℤ, pos}
use lib.ListN.{replicate}
use borrow.Author.Tests.{le-leb, ltb-false}
use Rattle.fixed.specs.Operators.{L_add, L_mult}
use Rattle.fixed.specs.Lists.{at, between, L_sum}
use Rattle.fixed.proofs.Lists.{Filled, zeros}

module _ (g : ℕ → ℕ → ℤ) (count : ℕ → ℕ) where
  -- place i once k terms were handed out
  abbrev pub taken : ℕ → ℕ → ℤ
  taken k i = L_sum (pos 0) (g i) (min k (count i))

  pub none_taken : (n : ℕ) → Filled (taken 0) (pos 0) n (replicate n (pos 0))
  unfolding L_sum
  none_taken n i h = let e : min 0 (count i) ≡ 0 = omega arith in rw e (zeros n i h)

  -- a term more, at a place that has one
  pub term_more : (k i : ℕ) → k < count i → L_add (taken k i) (g i k) ≡ taken (k + 1) i
  unfolding L_sum
  term_more k i h =
      let a : min k (count i) ≡ k = omega arith in
      let b : min (k + 1) (count i) ≡ suc k = omega arith in
      rw (a, b)

  -- and the other places have all of theirs
  pub row_done : (k low end n : ℕ) (ss : List ℤ) → ((i : ℕ) → i < n → (leb low i && ltb i end) ≡ false → count i ≤ k) →
      Filled (between (taken (k + 1)) (taken k) low end) (pos 0) n ss → Filled (taken (k + 1)) (pos 0) n ss
  row_done k low end n ss all p i h = p i h ∙ go (leb low i && ltb i end) refl
    where
      go : (t : Bool) → (leb low i && ltb i end) ≡ t → cond t (taken (k + 1) i) (taken k i) ≡ taken (k + 1) i
      go true q = refl
      go false q =
          let l = all i h q in
          let e : min k (count i) ≡ min (k + 1) (count i) = omega arith in
          ap (L_sum (pos 0) (g i)) e

  -- every sum is whole
  pub all_taken : (k n : ℕ) (ss : List ℤ) → ((i : ℕ) → i < n → count i ≤ k) → Filled (taken k) (pos 0) n ss → Filled (λ i. L_sum (pos 0) (g i) (count i)) (pos 0) n ss
  all_taken k n ss all p i h =
      let l = all i h in
      let e : min k (count i) ≡ count i = omega arith in
      p i h ∙ ap (L_sum (pos 0) (g i)) e

-- where sum i has n - i terms, no sum past place n - k waits for term k
pub waiting : (n k i : ℕ) → i < n → (leb 0 i && ltb i (n - k)) ≡ false → n - i ≤ k
waiting n k i h q =
    let e = rw (le-leb 0 i (omega arith)) at q in
    omega (arith, ltb-false i (n - k) e)

-- ---- the sums of Convolve
-- term i of the sum at place n, which has n + 1 terms
abbrev pub term : List ℤ → List ℤ → ℕ → ℕ → ℤ
term xs hs n i = L_mult (at xs i) (at hs (n - i))
