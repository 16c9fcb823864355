-- A table of 40 rows of 40 while it is filled, from the last row up, each value at both of its places.
use mathlib.Core.Path.{◌≡◌, refl, ◌∙◌}
use mathlib.Core.Bool.{Bool, true, false}
use mathlib.Core.List.{List, []}
use mathlib.Core.Logic.{◌⊎◌, inl, inr, ⊎_elim}
use Prim.Native.Nat.{ℕ, suc, ◌+◌, ◌-◌, ◌<◌, ◌≤◌, min, max}
use native.Mathlib.Omega.{arith}
use lib.Dec.{eqb, leb}
use lib.IntN.{ℤ, pos}
use lib.ListN.{length, get_or, set, replicate, length-set, length-replicate, get_or-replicate}
use lib.Seq.{get_or-set_same, get_or-set_other}
use borrow.Author.Tests.{eqb-true, eqb-false, leb-true, leb-false}
use Rattle.fixed.specs.Lists.{tabulate}
use Rattle.fixed.proofs.Lists.{filled_all}
use Rattle.codebook_matrix.specs.Matrices.{cell}

-- ---- one store
-- what a store to m[i][j] leaves
abbrev pub put : List (List ℤ) → ℕ → ℕ → ℤ → List (List ℤ)
put m i j v = set m i (set (get_or m i []) j v)

-- two numbers are equal or not
equal : (a b : ℕ) → (a ≡ b) ⊎ (a ≡ b → ⊥)
equal a b = go (eqb a b) refl
  where
    go : (t : Bool) → eqb a b ≡ t → (a ≡ b) ⊎ (a ≡ b → ⊥)
    go true e = inl (eqb-true a b e)
    go false e = inr (eqb-false a b e)

-- a table of 40 rows of 40
pub record Square (m : List (List ℤ)) : Type 0 where
  pub rows : length m ≡ 40
  pub places : (a : ℕ) → a < 40 → length (get_or m a []) ≡ 40

module _ (m : List (List ℤ)) (i j : ℕ) (v : ℤ) (sq : Square m) (hi : i < 40) (hj : j < 40) where
  row_at : get_or (put m i j v) i [] ≡ set (get_or m i []) j v
  row_at = get_or-set_same m i (set (get_or m i []) j v) [] (omega (arith, sq.rows))

  row_other : (a : ℕ) → (a ≡ i → ⊥) → get_or (put m i j v) a [] ≡ get_or m a []
  row_other a n = get_or-set_other m i a (set (get_or m i []) j v) [] n

  put_here : cell (put m i j v) i j ≡ v
  put_here = rw row_at (get_or-set_same (get_or m i []) j v (pos 0) (omega (arith, sq.places i hi)))

  put_other : (a b : ℕ) → (a ≡ i → b ≡ j → ⊥) → cell (put m i j v) a b ≡ cell m a b
  put_other a b n = ⊎_elim same (λ o. rw (row_other a o)) (equal a i)
    where
      same : a ≡ i → cell (put m i j v) a b ≡ cell m a b
      same e = rw (e, row_at) (get_or-set_other (get_or m i []) j b v (pos 0) (λ f. n e f))

  put_square : Square (put m i j v)
  put_square =
      record {
        rows = length-set m i (set (get_or m i []) j v) ∙ sq.rows;
        places = λ a h. ⊎_elim (λ e. same a e) (λ o. rw (row_other a o) (sq.places a h)) (equal a i);
      }
    where
      same : (a : ℕ) → a ≡ i → length (get_or (put m i j v) a []) ≡ 40
      same a e = rw (e, row_at) (length-set (get_or m i []) j v ∙ sq.places i hi)

-- ---- a table of f, which is the same at (a, b) and at (b, a)
module _ (f : ℕ → ℕ → ℤ) (mirror : (a b : ℕ) → f a b ≡ f b a) where
  -- rows and columns after j, and of row and column j the places before i
  abbrev Before : ℕ → ℕ → ℕ → ℕ → Type 0
  Before j i a b = (suc j ≤ max a b) ⊎ ((max a b ≡ j) × (min a b < i))

  pub record Filled (m : List (List ℤ)) (j i : ℕ) : Type 0 where
    pub square : Square m
    pub cells : (a b : ℕ) → a < 40 → b < 40 → Before j i a b → cell m a b ≡ f a b

  -- the last k rows and columns
  pub record Rows (m : List (List ℤ)) (k : ℕ) : Type 0 where
    pub square : Square m
    pub cells : (a b : ℕ) → a < 40 → b < 40 → 40 - k ≤ max a b → cell m a b ≡ f a b

  pub nothing_filled : Rows (replicate 40 (replicate 40 (pos 0))) 0
  nothing_filled =
      record {
        square = record { rows = length-replicate 40 (replicate 40 (pos 0)); places = λ a l. rw (get_or-replicate 40 a (replicate 40 (pos 0)) [] l) (length-replicate 40 (pos 0)) };
        cells = λ a b ha hb w. absurd (omega arith);
      }

  pub row_done : (m : List (List ℤ)) (k i : ℕ) → k < 40 → 40 - k ≤ i → Filled m (39 - k) i → Rows m (k + 1)
  row_done m k i h l r = record { square = r.square; cells = λ a b ha hb w. r.cells a b ha hb (go a b w (leb (40 - k) (max a b)) refl) }
    where
      go : (a b : ℕ) → 40 - (k + 1) ≤ max a b → (t : Bool) → leb (40 - k) (max a b) ≡ t → Before (39 - k) i a b
      go a b w true q = inl (omega (arith, leb-true (40 - k) (max a b) q))
      go a b w false q = let o = leb-false (40 - k) (max a b) q in inr (omega arith, omega arith)

  pub one_more : (m : List (List ℤ)) (j i : ℕ) (v : ℤ) → i ≤ j → j < 40 → v ≡ f i j → Filled m j i → Filled (put (put m i j v) j i v) j (i + 1)
  one_more m j i v l u e r = record { square = put_square (put m i j v) j i v first u (omega arith); cells = λ a b ha hb w. at_ji a b ha hb w (equal a j) (equal b i) }
    where
      first : Square (put m i j v)
      first = put_square m i j v r.square (omega arith) u

      -- neither place: it was there before
      older : (a b : ℕ) → Before j (i + 1) a b → (a ≡ i → b ≡ j → ⊥) → (a ≡ j → b ≡ i → ⊥) → Before j i a b
      older a b w n o = ⊎_elim (λ (x : suc j ≤ max a b). inl x) (λ (x : (max a b ≡ j) × (min a b < i + 1)). inr (x.0, go x (leb a b) refl)) w
        where
          go : (max a b ≡ j) × (min a b < i + 1) → (t : Bool) → leb a b ≡ t → min a b < i
          go x true q = let z = leb-true a b q in ⊎_elim (λ (y : a ≡ i). absurd (n y (omega (arith, x.0)))) (λ (y : a ≡ i → ⊥). omega (arith, y, x.1)) (equal a i)
          go x false q = let z = leb-false a b q in ⊎_elim (λ (y : b ≡ i). absurd (o (omega (arith, x.0)) y)) (λ (y : b ≡ i → ⊥). omega (arith, y, x.1)) (equal b i)

      at_ij : (a b : ℕ) → a < 40 → b < 40 → Before j (i + 1) a b → (a ≡ j → b ≡ i → ⊥) → cell (put m i j v) a b ≡ f a b
      at_ij a b ha hb w o = go (equal a i) (equal b j)
        where
          elsewhere : (a ≡ i → b ≡ j → ⊥) → cell (put m i j v) a b ≡ f a b
          elsewhere n = put_other m i j v r.square (omega arith) u a b n ∙ r.cells a b ha hb (older a b w n o)

          go : (a ≡ i) ⊎ (a ≡ i → ⊥) → (b ≡ j) ⊎ (b ≡ j → ⊥) → cell (put m i j v) a b ≡ f a b
          go (inl p) (inl q) = rw (p, q) (put_here m i j v r.square (omega arith) u ∙ e)
          go (inl p) (inr q) = elsewhere (λ _ z. q z)
          go (inr p) q = elsewhere (λ z _. p z)

      at_ji : (a b : ℕ) → a < 40 → b < 40 → Before j (i + 1) a b → (a ≡ j) ⊎ (a ≡ j → ⊥) → (b ≡ i) ⊎ (b ≡ i → ⊥) → cell (put (put m i j v) j i v) a b ≡ f a b
      at_ji a b ha hb w (inl p) (inl q) = rw (p, q) (put_here (put m i j v) j i v first u (omega arith) ∙ (e ∙ mirror i j))
      at_ji a b ha hb w (inl p) (inr q) = put_other (put m i j v) j i v first u (omega arith) a b (λ _ z. q z) ∙ at_ij a b ha hb w (λ _ z. q z)
      at_ji a b ha hb w (inr p) q = put_other (put m i j v) j i v first u (omega arith) a b (λ z _. p z) ∙ at_ij a b ha hb w (λ z _. p z)

  pub all_filled : (m : List (List ℤ)) → Rows m 40 → m ≡ tabulate (λ a. tabulate (f a) 40) 40
  all_filled m r =
      filled_all (λ a. tabulate (f a) 40) [] 40 m r.square.rows
      (λ a h. filled_all (f a) (pos 0) 40 (get_or m a []) (r.square.places a h) (λ b l. r.cells a b h l (omega arith)))
