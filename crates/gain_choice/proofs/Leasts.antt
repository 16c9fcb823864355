-- The row that the search ends at is the lowest of those within the limit whose distance is least, and no other row is.
use mathlib.Core.Path.{◌≡◌, refl}
use mathlib.Core.Bool.{Bool, true, false, cond, ◌&&◌}
use Prim.Native.Nat.{ℕ, zero, suc, ◌+◌, ◌-◌, ◌<◌}
use native.Mathlib.Omega.{arith}
use lib.Dec.{T, ltb, eqb, ltb→lt, le→leb}
use lib.IntN.{ℤ, pos, negsuc}
use lib.Signed.{lt_z, le_z, ◌≤ℤ◌, ◌<ℤ◌, lt_z_yes, lt_z_no, ≤ℤ_refl, <ℤ-≤ℤ_trans, clash_ℤ}
use borrow.Author.Tests.{eqb-true, eqb-false, ltb-true, ltb-false}
use Rattle.fixed.proofs.Clips.{contradiction, both}
use Rattle.gain_choice.specs.Rows.{nearer, nearest, LowestOfLeast}

-- ---- the order of the integers
weaken : (a b : ℤ) → a <ℤ b → a ≤ℤ b
weaken a b h = record { le = go a b h.lt }
  where
    go : (a b : ℤ) → T (lt_z a b) → T (le_z a b)
    go (pos a) (pos b) t = le→leb a b (omega (arith, ltb→lt a b t))
    go (pos a) (negsuc b) t = t
    go (negsuc a) (pos b) t = t
    go (negsuc a) (negsuc b) t = le→leb b a (omega (arith, ltb→lt b a t))

-- ---- a test of two parts
second_false : (a b : Bool) → a ≡ true → a && b ≡ false → b ≡ false
second_false true b h e = e
second_false false b h e = contradiction h

module _ (within : ℕ → Bool) (d : ℕ → ℤ) where
  -- one row more, i
  pub nearest_more : (i : ℕ) (t : Bool) → zero < i → within i && lt_z (d i) (d (nearest within d (i - 1))) ≡ t →
      nearest within d (i + 1 - 1) ≡ cond t i (nearest within d (i - 1))
  unfolding nearest nearer
  nearest_more i t h q = step (i - 1) i (i + 1 - 1) t (omega arith) (omega arith) q
    where
      step : (m k n : ℕ) (t : Bool) → k ≡ suc m → n ≡ suc m → within k && lt_z (d k) (d (nearest within d m)) ≡ t →
          nearest within d n ≡ cond t k (nearest within d m)
      step m k n t e f q = rw (f, ← e, q)

  -- what the next row makes of the one held
  module _ (n held : ℕ) (L : LowestOfLeast within d (suc n) held) where
    taken : within (suc n) && lt_z (d (suc n)) (d held) ≡ true → LowestOfLeast within d (suc (suc n)) (suc n)
    taken e =
        let b = both (within (suc n)) (lt_z (d (suc n)) (d held)) e in
        let below : d (suc n) <ℤ d held = lt_z_yes (rw b.1 tt) in
        record {
          row = omega arith;
          allowed = b.0;
          least = λ k l w. go k l w (eqb k (suc n)) refl below;
          lowest = λ k l w. <ℤ-≤ℤ_trans below (L.least k l w);
        }
      where
        go : (k : ℕ) → k < suc (suc n) → within k ≡ true → (t : Bool) → eqb k (suc n) ≡ t → d (suc n) <ℤ d held → d (suc n) ≤ℤ d k
        go k l w true q h = rw (eqb-true k (suc n) q) (≤ℤ_refl (d (suc n)))
        go k l w false q h =
            let o = eqb-false k (suc n) q in
            weaken (d (suc n)) (d k) (<ℤ-≤ℤ_trans h (L.least k (omega (arith, o)) w))

    left : within (suc n) && lt_z (d (suc n)) (d held) ≡ false → LowestOfLeast within d (suc (suc n)) held
    left e =
        record {
          row = let h = L.row in omega arith;
          allowed = L.allowed;
          least = λ k l w. go k l w (eqb k (suc n)) refl;
          lowest = L.lowest;
        }
      where
        go : (k : ℕ) → k < suc (suc n) → within k ≡ true → (t : Bool) → eqb k (suc n) ≡ t → d held ≤ℤ d k
        go k l w true q =
            let p = eqb-true k (suc n) q in
            let f : lt_z (d (suc n)) (d held) ≡ false = second_false (within (suc n)) _ (rw p at w) e in
            rw p (lt_z_no (rw f tt))
        go k l w false q = let o = eqb-false k (suc n) q in L.least k (omega (arith, o)) w

    stepped : (t : Bool) → within (suc n) && lt_z (d (suc n)) (d held) ≡ t → LowestOfLeast within d (suc (suc n)) (cond t (suc n) held)
    stepped true e = taken e
    stepped false e = left e

  -- the search over rows 0 to n, where row 0 is allowed
  pub lowest_of_least : (n : ℕ) → within 0 ≡ true → LowestOfLeast within d (suc n) (nearest within d n)
  unfolding nearest nearer
  lowest_of_least zero h =
      record {
        row = omega arith;
        allowed = h;
        least = λ k l w. let z : k ≡ 0 = omega arith in rw z (≤ℤ_refl (d 0));
        lowest = λ k l w. absurd (omega arith);
      }
  lowest_of_least (suc n) h = stepped n (nearest within d n) (lowest_of_least n h) (within (suc n) && lt_z (d (suc n)) (d (nearest within d n))) refl

  -- there is no other such row
  pub only_one : (n i j : ℕ) → LowestOfLeast within d n i → LowestOfLeast within d n j → i ≡ j
  only_one n i j L M = go (ltb i j) refl (ltb j i) refl
    where
      go : (s : Bool) → ltb i j ≡ s → (t : Bool) → ltb j i ≡ t → i ≡ j
      go true p t q = clash_ℤ (M.lowest i (ltb-true i j p) L.allowed) (L.least j M.row M.allowed)
      go false p true q = clash_ℤ (L.lowest j (ltb-true j i q) M.allowed) (M.least i L.row L.allowed)
      go false p false q = omega (arith, ltb-false i j p, ltb-false j i q)
