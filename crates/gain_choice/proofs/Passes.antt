-- The search in three passes: the distances of the rows within the limit, the least of them, and the first place that has it.
use mathlib.Core.Path.{◌≡◌, refl, sym, ◌∙◌}
use mathlib.Core.Bool.{Bool, true, false, cond}
use mathlib.Core.List.{List, [], ◌∷◌}
use Prim.Native.Nat.{ℕ, zero, suc, ◌+◌, ◌-◌, ◌<◌, ◌≤◌}
use native.Mathlib.Numerals.{unary_clauses}
use native.Mathlib.Omega.{arith}
use lib.Dec.{ltb}
use lib.IntN.{ℤ, pos, negsuc}
use lib.ListN.{length, get_or}
use lib.Signed.{mag, lt_z, ≤ℤ_refl, clash_ℤ}
use borrow.Author.Tests.{ltb-true, ltb-false, le-ltb}
use Rattle.std.proofs.Common.{Option, Some, None}
use Rattle.std.specs.List.{fold}
use Rattle.std.specs.Option.{MatchOption, unwrap_or}
use Rattle.gain_choice.specs.Rows.{nearer, nearest, LowestOfLeast}
use Rattle.gain_choice.proofs.Leasts.{nearest_more, lowest_of_least}

-- no limit
abbrev pub every : ℕ → Bool
every k = true

-- the greatest long is below no long
none_above : (z : ℤ) → mag z < 2147483648 → lt_z (pos 2147483647) z ≡ false
none_above (pos n) h = le-ltb 2147483647 n (omega arith)
none_above (negsuc n) h = refl

-- ---- the limit
module _ (within : ℕ → Bool) (d e : ℕ → ℤ) where
  -- both searches hold row i, at the same distance: what they hold next
  module _ (n i : ℕ) (l : i ≤ n) (q : e i ≡ d i) (f : e (suc n) ≡ cond (within (suc n)) (d (suc n)) (pos 2147483647)) (h : mag (d i) < 2147483648) where
    next : (w t : Bool) → within (suc n) ≡ w → lt_z (d (suc n)) (d i) ≡ t →
        (nearer within d i (suc n) ≡ nearer every e i (suc n)) × (nearer within d i (suc n) ≤ suc n) × (e (nearer within d i (suc n)) ≡ d (nearer within d i (suc n)))
    unfolding nearer
    next true true a b = let g : e (suc n) ≡ d (suc n) = rw a at f in rw (a, g, q, b) (refl, omega arith, g)
    next true false a b = let g : e (suc n) ≡ d (suc n) = rw a at f in rw (a, g, q, b) (refl, omega arith, q)
    next false t a b = let g : e (suc n) ≡ pos 2147483647 = rw a at f in rw (a, g, q, none_above (d i) h) (refl, omega arith, refl)

  module _ (o : e 0 ≡ d 0) where
    same_row : (n : ℕ) → ((k : ℕ) → zero < k → k ≤ n → e k ≡ cond (within k) (d k) (pos 2147483647)) → ((k : ℕ) → k ≤ n → mag (e k) < 2147483648) →
        (nearest within d n ≡ nearest every e n) × (nearest within d n ≤ n) × (e (nearest within d n) ≡ d (nearest within d n))
    unfolding nearest
    same_row zero p h = (refl, omega arith, o)
    same_row (suc n) p h =
        let v = same_row n (λ k z l. p k z (omega arith)) (λ k l. h k (omega arith)) in
        rw (← v.0) (next n (nearest within d n) v.1 v.2 (p (suc n) (omega arith) (omega arith)) (rw v.2 at (h (nearest within d n) (omega (arith, v.1)))) _ _ refl refl)

    -- the greatest long for each row past the limit, but not for row 0: the choice without a limit is the one within it
    pub without_limit : (n : ℕ) → ((k : ℕ) → zero < k → k ≤ n → e k ≡ cond (within k) (d k) (pos 2147483647)) → ((k : ℕ) → k ≤ n → mag (e k) < 2147483648) →
        nearest every e n ≡ nearest within d n
    without_limit n p h = sym (same_row n p h).0

-- ---- the least distance
-- the lesser of two
abbrev pub lesser : ℤ → ℤ → ℤ
lesser m z = cond (lt_z z m) z m

module _ (d : ℕ → ℤ) where
  later : (i : ℕ) → zero < i → (t : Bool) → lt_z (d i) (d (nearest every d (i - 1))) ≡ t →
      cond t (d i) (d (nearest every d (i - 1))) ≡ d (nearest every d (i + 1 - 1))
  later i z true q = rw (nearest_more every d i true z q)
  later i z false q = rw (nearest_more every d i false z q)

  -- with one row more, i
  pub least_more : (i : ℕ) →
      cond (lt_z (d i) (d (nearest every d (i - 1)))) (d i) (d (nearest every d (i - 1))) ≡ d (nearest every d (i + 1 - 1))
  unfolding nearest
  least_more zero = same (lt_z (d 0) (d 0))
    where
      same : (t : Bool) → cond t (d 0) (d 0) ≡ d 0
      same true = refl
      same false = refl
  least_more (suc k) = later (suc k) (omega arith) _ refl

  -- and with the rows of a list more, from i on
  pub least_of : (xs : List ℤ) (i : ℕ) → ((k : ℕ) → k < length xs → get_or xs k (pos 0) ≡ d (i + k)) →
      fold lesser (d (nearest every d (i - 1))) xs ≡ d (nearest every d (i + length xs - 1))
  least_of [] i h = simp unary_clauses
  least_of (x ∷ xs) i h =
      let e : i + suc (length xs) - 1 ≡ i + 1 + length xs - 1 = omega arith in
      let z : x ≡ d i = (let o : i + 0 ≡ i = omega arith in rw o at (h 0 (omega arith))) in
      rw (e, z, least_more i)
      (least_of xs (i + 1) (λ k l. let o : i + 1 + k ≡ i + suc k = omega arith in rw o (h (suc k) (omega arith))))

  -- its first place is the row that the search ends at
  found : (n : ℕ) → LowestOfLeast every d (suc n) (nearest every d n)
  found n = lowest_of_least every d n refl

  pub first_place : (n i : ℕ) → ((k : ℕ) → k < i → d k ≡ d (nearest every d n) → ⊥) → i ≤ n → d i ≡ d (nearest every d n) → i ≡ nearest every d n
  first_place n i o h e = go (ltb i (nearest every d n)) refl (ltb (nearest every d n) i) refl
    where
      go : (s : Bool) → ltb i (nearest every d n) ≡ s → (t : Bool) → ltb (nearest every d n) i ≡ t → i ≡ nearest every d n
      go true p t q = clash_ℤ ((found n).lowest i (ltb-true _ _ p) refl) (rw e (≤ℤ_refl (d (nearest every d n))))
      go false p true q = absurd (o (nearest every d n) (ltb-true _ _ q) refl)
      go false p false q = omega (arith, ltb-false _ _ p, ltb-false _ _ q)

  -- one of the rows 0 to n has it
  pub some_place : (n i : ℕ) → n < i → ((k : ℕ) → k < i → d k ≡ d (nearest every d n) → ⊥) → ⊥
  some_place n i h o = let l = (found n).row in o (nearest every d n) (omega arith) refl

  -- so it is what a search for the first such row finds
  pub found_first : (least : ℤ) (n : ℕ) (o : Option ℕ) → least ≡ d (nearest every d n) →
      MatchOption o ((k : ℕ) → k < suc n → d k ≡ least → ⊥) (λ i. (i < suc n) × (d i ≡ least) × ((k : ℕ) → k < i → d k ≡ least → ⊥)) →
      (unwrap_or o 0 ≡ nearest every d n) × (unwrap_or o 0 ≤ n)
  found_first least n (Some i) q (l, e, other) = (first_place n i (rw q at other) (omega arith) (e ∙ q), omega arith)
  found_first least n None q none = absurd (some_place n (suc n) (omega arith) (rw q at none))
