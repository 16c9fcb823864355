-- The sums of the open loop by one term more, and what a table of them holds.
use mathlib.Core.Path.{◌≡◌, refl, ap, ◌∙◌}
use mathlib.Core.Bool.{Bool, true, false, cond, ◌&&◌}
use mathlib.Core.List.{List}
use Prim.Native.Nat.{ℕ, ◌+◌, ◌-◌, ◌≤◌, ◌<◌}
use native.Mathlib.Omega.{arith}
use native.Mathlib.Numerals.{add-one}
use lib.IntN.{ℤ, pos}
use lib.Dec.{leb, ltb}
use lib.ListN.{length, set, take, drop, length-set}
use Rattle.std.proofs.Common.{◌++◌}
use borrow.Author.Tests.{le-leb, lt-ltb, ltb-true, ltb-false}
use Rattle.std.proofs.lemmas.List.{get_or-take, get_or-drop, get_or_append_left, get_or-append_right, length-append, length-drop, length-take-le}
use Rattle.fixed.specs.Operators.{L_mac}
use Rattle.fixed.specs.Lists.{at, tabulate, between, L_sum}
use Rattle.fixed.proofs.Lists.{at_tabulate, length_tabulate, Filled, placed_more}
use Rattle.open_loop_correlation.specs.Correlations.{products, correlation, by_lag}

-- one product more
pub products_more : (xs : List ℤ) (a b i : ℕ) → L_mac (products xs a b i) (at xs (a + i)) (at xs (b + i)) ≡ products xs a b (i + 1)
unfolding products L_sum L_mac
products_more xs a b i = rw (add-one i)

-- the sums of neighbouring lags over the first i products
abbrev pub grown : List ℤ → ℕ → ℕ → ℕ → ℤ
grown xs lag i n = products xs 143 (143 - (lag + n)) i

module _ (xs : List ℤ) where
  -- the places of the correlations by the lag, filled from 20 up to, and without, m
  abbrev pub Placed : ℕ → List ℤ → Type 0
  Placed m ts = (length ts ≡ 144) × Filled (between (correlation xs) (λ k. pos 0) 20 m) (pos 0) 144 ts

  pub placed_next : (m n : ℕ) (ts : List ℤ) (v : ℤ) → n ≡ m + 1 → 20 ≤ m → m < 144 → v ≡ correlation xs m → Placed m ts → Placed n (set ts m v)
  placed_next m n ts v q h l e p =
      rw q (length-set ts m v ∙ p.0, placed_more (correlation xs) (λ k. pos 0) 20 m 144 ts v h (omega (arith, p.0)) e p.1)

  -- n places more at once
  pub placed_part : (m n l : ℕ) (ts ys : List ℤ) → l ≡ n → 20 ≤ m → m + n ≤ 144 → ys ≡ tabulate (λ k. correlation xs (m + k)) n → Placed m ts →
      Placed (m + n) (take m ts ++ (ys ++ drop l (drop m ts)))
  placed_part m n l ts ys o h b e p =
      let q : length (take m ts) ≡ m = length-take-le m ts (omega (arith, p.0)) in
      let r : length ys ≡ n = rw e (length_tabulate (λ k. correlation xs (m + k)) (pos 0) n) in
      (simp (length-append, length-drop) (omega (arith, q, r, p.0)), λ k d. go k d q r (ltb k m) refl (ltb k (m + n)) refl)
    where
      go : (k : ℕ) → k < 144 → length (take m ts) ≡ m → length ys ≡ n → (s : Bool) → ltb k m ≡ s → (t : Bool) → ltb k (m + n) ≡ t →
          at (take m ts ++ (ys ++ drop l (drop m ts))) k ≡ cond (leb 20 k && ltb k (m + n)) (correlation xs k) (pos 0)
      go k d q r true f t g =
          let c = ltb-true k m f in
          get_or_append_left (take m ts) (ys ++ drop l (drop m ts)) (pos 0) k (omega arith) ∙ get_or-take m ts k (pos 0) c ∙ p.1 k d ∙ rw (f, lt-ltb k (m + n) (omega arith))
      go k d q r false f true g =
          let c = ltb-false k m f in
          let u = ltb-true k (m + n) g in
          let w : k - m < n = omega arith in
          let x : m + (k - m) ≡ k = omega arith in
          get_or-append_right (take m ts) (ys ++ drop l (drop m ts)) m k (pos 0) q c ∙ get_or_append_left ys (drop l (drop m ts)) (pos 0) (k - m) (omega arith)
          ∙ rw (e, at_tabulate (λ k. correlation xs (m + k)) (pos 0) n (k - m) w, x, g, le-leb 20 k (omega arith))
      go k d q r false f false g =
          let c = ltb-false k m f in
          let u = ltb-false k (m + n) g in
          let x : m + (l + (k - m - n)) ≡ k = omega arith in
          get_or-append_right (take m ts) (ys ++ drop l (drop m ts)) m k (pos 0) q c
          ∙ get_or-append_right ys (drop l (drop m ts)) n (k - m) (pos 0) r (omega arith)
          ∙ get_or-drop l (drop m ts) (k - m - n) (pos 0) ∙ get_or-drop m ts (l + (k - m - n)) (pos 0) ∙ ap (at ts) x ∙ p.1 k d ∙ rw (f, g)

  pub at_lag : (lag : ℕ) → 20 ≤ lag → lag ≤ 143 → at (by_lag xs) lag ≡ correlation xs lag
  at_lag lag h l =
      rw (at_tabulate (between (correlation xs) (λ k. pos 0) 20 144) (pos 0) 144 lag (omega arith), le-leb 20 lag h, lt-ltb lag 144 (omega arith))
