-- The plain sums of all distances, each at two of 80 places: 39 - d, and 39 + d, where it is d terms behind. With k + 1 terms handed out, those from place k to
-- place 39 are row 39 - k of the table up to its diagonal.
use mathlib.Core.Path.{◌≡◌, refl, sym, ap, ◌∙◌}
use mathlib.Core.Bool.{Bool, true, false, cond, ◌&&◌}
use mathlib.Core.List.{List}
use Prim.Native.Nat.{ℕ, suc, ◌+◌, ◌-◌, ◌*◌, ◌^◌, ◌<◌, ◌≤◌, min, max}
use native.Mathlib.Omega.{arith}
use lib.Dec.{leb, ltb}
use lib.IntN.{ℤ, pos, nat_abs, ◌+ℤ◌, ◌*ℤ◌, *ℤ_comm}
use lib.Signed.{lt_z}
use borrow.Author.Tests.{leb-true, leb-false, ltb-true, ltb-false}
use Rattle.fixed.specs.Operators.{round}
use Rattle.fixed.specs.Lists.{at, between, dot}
use Rattle.fixed.proofs.Lists.{Filled}
use Rattle.sums.proofs.Sums.{energy_is}
use Rattle.sums.specs.Plain.{squared, plain}
use Rattle.sums.proofs.Quiet.{small, quiet, window, squared_more, squared_same}
use Rattle.codebook_matrix.specs.Matrices.{products, signed, entry}

-- the distance of a place, and how many terms it has
distance : ℕ → ℕ
distance x = (39 - x) + (x - 39)

count : ℕ → ℕ → ℕ
count k x = min k (x + 1) - (x - 39)

-- at place i of row 39 - k, before the diagonal or on it
near_distance : (k i : ℕ) → k < 40 → i ≤ 39 - k → 39 - k - i ≡ (39 - (k + i)) + (k + i - 39)
near_distance k i h l = omega arith

near_count : (k i : ℕ) → k < 40 → i ≤ 39 - k → 40 - (39 - k) ≡ min (k + 1) (k + i + 1) - (k + i - 39)
near_count k i h l = omega arith

module _ (ns : List ℤ) where
  -- the sum at place x once k terms were handed out
  pub sum_at : ℕ → ℕ → ℤ
  sum_at k x = plain (at ns) (λ t. at ns (t + distance x)) (count k x)

  pub none_yet : (x : ℕ) → sum_at 0 x ≡ pos 0
  unfolding sum_at count plain
  none_yet x = let e : min 0 (x + 1) - (x - 39) ≡ 0 = omega arith in rw e

  -- the places that get term k
  pub one_more : (k i : ℕ) → k < 40 → i < 40 → sum_at (k + 1) (k + i) ≡ sum_at k (k + i) +ℤ at ns k *ℤ at ns (39 - i)
  unfolding sum_at count distance plain
  one_more k i h l = rw e (ap (λ (y : ℤ). plain (at ns) (λ t. at ns (t + ((39 - (k + i)) + (k + i - 39)))) (min k (k + i + 1) - (k + i - 39)) +ℤ y) (go (leb (k + i) 39) refl))
    where
      e : min (k + 1) (k + i + 1) - (k + i - 39) ≡ suc (min k (k + i + 1) - (k + i - 39))
      e = omega arith

      go : (t : Bool) → leb (k + i) 39 ≡ t →
          at ns (min k (k + i + 1) - (k + i - 39)) *ℤ at ns (min k (k + i + 1) - (k + i - 39) + ((39 - (k + i)) + (k + i - 39))) ≡ at ns k *ℤ at ns (39 - i)
      go true q =
          let b = leb-true (k + i) 39 q in
          let u : min k (k + i + 1) - (k + i - 39) ≡ k = omega arith in
          let v : k + ((39 - (k + i)) + (k + i - 39)) ≡ 39 - i = omega arith in
          rw (u, v)
      go false q =
          let b = leb-false (k + i) 39 q in
          let u : min k (k + i + 1) - (k + i - 39) ≡ 39 - i = omega arith in
          let v : 39 - i + ((39 - (k + i)) + (k + i - 39)) ≡ k = omega arith in
          rw (u, v) (*ℤ_comm (at ns (39 - i)) (at ns k))

  -- and those that don't
  before : (k x : ℕ) → x < k → sum_at (k + 1) x ≡ sum_at k x
  unfolding sum_at count
  before k x h = let e : min (k + 1) (x + 1) - (x - 39) ≡ min k (x + 1) - (x - 39) = omega arith in rw e

  after : (k x : ℕ) → k < 40 → k + 40 ≤ x → sum_at (k + 1) x ≡ sum_at k x
  unfolding sum_at count
  after k x l h = let e : min (k + 1) (x + 1) - (x - 39) ≡ min k (x + 1) - (x - 39) = omega arith in rw e

  pub term_done : (k : ℕ) (ss : List ℤ) → k < 40 → Filled (between (sum_at (k + 1)) (sum_at k) k (k + 40)) (pos 0) 80 ss → Filled (sum_at (k + 1)) (pos 0) 80 ss
  term_done k ss h p x l = p x l ∙ go (leb k x) (ltb x (k + 40)) refl refl
    where
      go : (s t : Bool) → leb k x ≡ s → ltb x (k + 40) ≡ t → cond (leb k x && ltb x (k + 40)) (sum_at (k + 1) x) (sum_at k x) ≡ sum_at (k + 1) x
      go true true q r = rw (q, r)
      go true false q r = rw (q, r) (sym (after k x h (ltb-false x (k + 40) r)))
      go false t q r = rw q (sym (before k x (leb-false k x q)))

  -- a sum and its terms reach no further than the energy
  module _ (k x : ℕ) (h : k ≤ 40) (l : x < 80) where
    squared_first : squared (at ns) (count k x) ≤ squared (at ns) 40
    unfolding count
    squared_first =
        let e : count k x + (40 - count k x) ≡ 40 = omega arith in
        rw e at (squared_more (at ns) (count k x) (40 - count k x))

    squared_second : squared (λ t. at ns (t + distance x)) (count k x) ≤ squared (at ns) 40
    unfolding count distance
    squared_second =
        let e = squared_same (λ t. at ns (t + distance x)) (λ t. at ns (distance x + t)) (count k x) (λ t b. ap (at ns) {x = t + distance x} {y = distance x + t} (omega arith)) in
        let w = window (at ns) (distance x) (count k x) 40 (omega arith) in
        omega (arith, e, w)

    pub sum_small : nat_abs (sum_at k x) ≤ squared (at ns) 40
    unfolding sum_at
    sum_small = omega (arith, small (at ns) (λ t. at ns (t + distance x)) (count k x), squared_first, squared_second)

    sum_quiet : squared (at ns) 40 < 2 ^ 30 → products ns (distance x) (count k x) ≡ pos 2 *ℤ sum_at k x
    unfolding sum_at products
    sum_quiet b = quiet (at ns) (λ t. at ns (t + distance x)) (count k x) (omega (arith, squared_first, squared_second))

  -- ---- row 39 - k up to its diagonal, by the sums rounded
  module _ (signs : List ℤ) (b : squared (at ns) 40 < 2 ^ 30) (k : ℕ) (h : k < 40) where
    product_is : (i : ℕ) → i ≤ 39 - k → products ns (max i (39 - k) - min i (39 - k)) (40 - max i (39 - k)) ≡ pos 2 *ℤ sum_at (k + 1) (k + i)
    unfolding count distance
    product_is i o =
        let x : max i (39 - k) ≡ 39 - k = omega arith in
        let y : min i (39 - k) ≡ i = omega arith in
        rw (x, y, near_distance k i h o, near_count k i h o) (sum_quiet (k + 1) (k + i) (omega arith) (omega arith) b)

    pub value_is : (i : ℕ) → i ≤ 39 - k → signed signs i (39 - k) (round (pos 2 *ℤ sum_at (k + 1) (k + i))) ≡ entry ns signs i (39 - k)
    unfolding entry
    value_is i o = ap (λ (z : ℤ). signed signs i (39 - k) (round z)) (sym (product_is i o))

-- ---- the energy's test
pub room : (xs : List ℤ) → lt_z (dot xs xs 40) (pos 2147450880) ≡ true → squared (at xs) 40 < 1073725440
room xs e = below (squared (at xs) 40) (rw (energy_is xs 40) at e)
  where
    below : (a : ℕ) → lt_z (pos (min (2 * a) 2147483647)) (pos 2147450880) ≡ true → a < 1073725440
    below a t = omega (arith, ltb-true (min (2 * a) 2147483647) 2147450880 t)
