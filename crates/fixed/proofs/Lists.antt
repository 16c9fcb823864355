-- A list is known by its places: what a loop that writes one place after another leaves behind.
use mathlib.Core.Path.{◌≡◌, refl, ap, sym, ◌∙◌}
use mathlib.Core.Bool.{Bool, true, false, cond, ◌&&◌}
use mathlib.Core.List.{List, [], ◌∷◌, ◌++◌}
use Prim.Native.Nat.{ℕ, zero, suc, ◌+◌, ◌≤◌, ◌<◌}
use native.Mathlib.Omega.{arith}
use lib.Dec.{ltb, leb, eqb}
use lib.IntN.{ℤ, pos}
use lib.ListN.{length, get_or, set, replicate, get_or-replicate, get_or-eq_default, length-replicate, length-append, length-set}
use lib.Seq.{ext_get_or, get_or-set_same, get_or-set_other}
use borrow.Author.Count.{below_more}
use borrow.Author.Tests.{eq-eqb, le-leb, lt-ltb, le-ltb, leb-true, ltb-true, ltb-false, eqb-true, eqb-false}
use Rattle.fixed.specs.Lists.{at, tabulate_from, tabulate, copied, between}

module _ {A : Type 0} (f : ℕ → A) (d : A) where
  length_from : (i n : ℕ) → length (tabulate_from i f n) ≡ n
  unfolding tabulate_from
  length_from i zero = refl
  length_from i (suc n) = ap suc (length_from (suc i) n)

  at_from : (i n k : ℕ) → k < n → get_or (tabulate_from i f n) k d ≡ f (i + k)
  unfolding tabulate_from
  at_from i zero k h = absurd (omega arith)
  at_from i (suc n) zero h = ap f (omega arith)
  at_from i (suc n) (suc k) h = at_from (suc i) n k (omega arith) ∙ ap f (omega arith)

  pub length_tabulate : (n : ℕ) → length (tabulate f n) ≡ n
  unfolding tabulate
  length_tabulate n = length_from 0 n

  pub at_tabulate : (n k : ℕ) → k < n → get_or (tabulate f n) k d ≡ f k
  unfolding tabulate
  at_tabulate n k h = at_from 0 n k h ∙ ap f (omega arith)

  -- the first i places of a list are those of f
  abbrev pub Filled : ℕ → List A → Type 0
  Filled i xs = (k : ℕ) → k < i → get_or xs k d ≡ f k

  pub filled_more : (i : ℕ) (xs : List A) (v : A) → i < length xs → v ≡ f i → Filled i xs → Filled (i + 1) (set xs i v)
  filled_more i xs v h e p =
      below_more (λ (k : ℕ). get_or (set xs i v) k d ≡ f k) i
      (λ k l. get_or-set_other xs i k v d (λ (q : k ≡ i). absurd (omega arith)) ∙ p k l)
      (get_or-set_same xs i v d h ∙ e)

  pub filled_all : (n : ℕ) (xs : List A) → length xs ≡ n → Filled n xs → xs ≡ tabulate f n
  filled_all n xs e p =
      ext_get_or d xs (tabulate f n) (e ∙ sym (length_tabulate n)) (λ k l. p k (omega arith) ∙ sym (at_tabulate n k (omega arith)))

-- ---- a list of n numbers that a loop fills, f 0 first
module _ (f : ℕ → ℤ) (n : ℕ) where
  -- the first i are there
  abbrev pub Filling : ℕ → List ℤ → Type 0
  Filling i xs = (i ≤ n) × (length xs ≡ n) × Filled f (pos 0) i xs

  pub filling_more : (i : ℕ) (xs : List ℤ) (v : ℤ) → i < n → v ≡ f i → Filling i xs → Filling (i + 1) (set xs i v)
  filling_more i xs v h e p = (omega arith, length-set xs i v ∙ p.1, filled_more f (pos 0) i xs v (omega (arith, p.1)) e p.2)

  pub filling_all : (i : ℕ) (xs : List ℤ) → n ≤ i → Filling i xs → xs ≡ tabulate f n
  filling_all i xs h p = filled_all f (pos 0) n xs p.1 (λ k l. p.2 k (omega arith))

-- a list copied into one of its length
pub copied_whole : (n : ℕ) (xs ys : List ℤ) → length xs ≡ n → length ys ≡ n → copied xs ys ≡ xs
unfolding copied
copied_whole n xs ys e f = rw (eq-eqb (length xs) (length ys) (e ∙ sym f))

-- ---- a list that is filled place by place from `low` on
-- nothing is placed yet
pub none_placed : (g d : ℕ → ℤ) (low n : ℕ) (xs : List ℤ) → Filled d (pos 0) n xs → Filled (between g d low low) (pos 0) n xs
none_placed g d low n xs p k h = p k h ∙ go (leb low k) refl
  where
    go : (t : Bool) → leb low k ≡ t → d k ≡ between g d low low k
    go true q = rw (q, le-ltb k low (leb-true low k q))
    go false q = rw q

pub zeros : (n : ℕ) → Filled (λ k. pos 0) (pos 0) n (replicate n (pos 0))
zeros n k h = get_or-replicate n k (pos 0) (pos 0) h

-- the place at the end is not filled yet
pub at_end : (g d : ℕ → ℤ) (low m : ℕ) → between g d low m m ≡ d m
at_end g d low m = go (leb low m)
  where
    go : (t : Bool) → cond (t && ltb m m) (g m) (d m) ≡ d m
    go true = rw (le-ltb m m (omega arith))
    go false = refl

-- and from place 0 all below the end are
pub below_end : (g d : ℕ → ℤ) (m k : ℕ) → k < m → between g d 0 m k ≡ g k
below_end g d m k h = rw (le-leb 0 k (omega arith), lt-ltb k m h)

-- a list reads 0 past its end, and so zeros after it change no place
pub zeros_after : (xs : List ℤ) (n k : ℕ) → at (xs ++ replicate n (pos 0)) k ≡ at xs k
zeros_after [] zero k = refl
zeros_after [] (suc n) zero = refl
zeros_after [] (suc n) (suc k) = zeros_after [] n k
zeros_after (x ∷ xs) n zero = refl
zeros_after (x ∷ xs) n (suc k) = zeros_after xs n k

-- m numbers and n zeros
pub zeros_behind : (f : ℕ → ℤ) (m n : ℕ) → tabulate f m ++ replicate n (pos 0) ≡ tabulate (between f (λ k. pos 0) 0 m) (m + n)
zeros_behind f m n =
    let xs = tabulate f m in
    filled_all (between f (λ k. pos 0) 0 m) (pos 0) (m + n) (xs ++ replicate n (pos 0)) (length-append xs (replicate n (pos 0)) ∙ rw (length_tabulate f (pos 0) m, length-replicate n (pos 0))) (λ k l. zeros_after xs n k ∙ go k (ltb k m) refl)
  where
    go : (k : ℕ) (t : Bool) → ltb k m ≡ t → at (tabulate f m) k ≡ between f (λ k. pos 0) 0 m k
    go k true q = at_tabulate f (pos 0) m k (ltb-true k m q) ∙ sym (below_end f (λ k. pos 0) m k (ltb-true k m q))
    go k false q = get_or-eq_default (tabulate f m) (pos 0) (rw (length_tabulate f (pos 0) m) (ltb-false k m q)) ∙ rw (le-leb 0 k (omega arith), q)

-- one place more
pub placed_more : (g d : ℕ → ℤ) (low m n : ℕ) (xs : List ℤ) (v : ℤ) → low ≤ m → m < length xs → v ≡ g m →
    Filled (between g d low m) (pos 0) n xs → Filled (between g d low (m + 1)) (pos 0) n (set xs m v)
placed_more g d low m n xs v h l e p k b = go (eqb k m) refl
  where
    -- the end moves past m alone
    moved : (t : Bool) → ltb k m ≡ t → (k ≡ m → ⊥) → ltb k m ≡ ltb k (m + 1)
    moved true q o = q ∙ sym (lt-ltb k (m + 1) (omega (arith, ltb-true k m q)))
    moved false q o = q ∙ sym (le-ltb k (m + 1) (omega (arith, ltb-false k m q, o)))

    go : (t : Bool) → eqb k m ≡ t → get_or (set xs m v) k (pos 0) ≡ between g d low (m + 1) k
    go true q = rw (eqb-true k m q, le-leb low m h, lt-ltb m (m + 1) (omega arith)) (get_or-set_same xs m v (pos 0) l ∙ e)
    go false q =
        let o = eqb-false k m q in
        get_or-set_other xs m k v (pos 0) o ∙ p k b ∙ ap (λ (t : Bool). cond (leb low k && t) (g k) (d k)) (moved (ltb k m) refl o)
