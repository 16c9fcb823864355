-- Which channel is next, and how many channels stand before another.
use mathlib.Core.Path.{◌≡◌, refl, sym, ap, ◌∙◌}
use mathlib.Core.Bool.{Bool, true, false, cond}
use mathlib.Core.List.{List, [], ◌∷◌}
use mathlib.Core.Logic.{◌⊎◌, inl, inr}
use Prim.Native.Nat.{ℕ, zero, suc, ◌+◌, ◌-◌, ◌≤◌, ◌<◌}
use native.Mathlib.Omega.{arith}
use lib.Dec.{ltb, leb}
use lib.ListN.{length, drop, take}
use borrow.Author.Tests.{le-leb, lt-leb, leb-true, leb-false, ltb-true}
use Rattle.fixed.proofs.Clips.{contradiction}
use Rattle.std.specs.Prelude.{Option, Some, None, slice_get}
use Rattle.dispatch.specs.Services.{start_of, first_waiting, waiting_from}
use Rattle.dispatch_runs.proofs.Places.{none_some, at_drop, at_take, in_take}

module _ {R : Type 0} (waits : R → Bool) where
  -- what is found is a record of the list, at a place from i on, and waits
  pub record Found (cs : List R) (i j : ℕ) (c : R) : Type 0 where
    pub place : ℕ
    pub number : j ≡ i + place
    pub holds : slice_get cs place ≡ Some c
    pub waiting : waits c ≡ true

  pub first_found : (i : ℕ) (cs : List R) (j : ℕ) (c : R) → first_waiting waits i cs ≡ Some (j, c) → Found cs i j c
  first_found i [] j c e = none_some e
  first_found i (b ∷ cs) j c e = go (waits b) refl (first_found (suc i) cs j c)
    where
      pair : Option (ℕ × R) → ℕ × R
      pair None = (j, c)
      pair (Some p) = p

      go : (t : Bool) → waits b ≡ t → (first_waiting waits (suc i) cs ≡ Some (j, c) → Found cs (suc i) j c) → Found (b ∷ cs) i j c
      go true q rest =
          let p = ap pair (rw q at e) in
          record { place = 0; number = omega (arith, ap (λ (x : ℕ × R). x.0) p); holds = ap (λ (x : ℕ × R). Some x.1) p; waiting = rw (← ap (λ (x : ℕ × R). x.1) p) q }
      go false q rest =
          let r = rest (rw q at e) in
          record { place = suc r.place; number = omega (arith, r.number); holds = r.holds; waiting = r.waiting }

  -- a place p that waits is not passed over
  pub record Taken (cs : List R) (i p : ℕ) : Type 0 where
    pub place : ℕ
    pub channel : R
    pub number : ℕ
    pub is : first_waiting waits i cs ≡ Some (number, channel)
    pub from : number ≡ i + place
    pub to : place ≤ p
    pub holds : slice_get cs place ≡ Some channel
    pub waiting : waits channel ≡ true

  pub first_taken : (i : ℕ) (cs : List R) (p : ℕ) (r : R) → slice_get cs p ≡ Some r → waits r ≡ true → Taken cs i p
  first_taken i [] p r e h = none_some e
  first_taken i (b ∷ cs) p r e h = go (waits b) refl p e (first_taken (suc i) cs)
    where
      of_some : Option R → Bool
      of_some None = false
      of_some (Some a) = waits a

      go : (t : Bool) → waits b ≡ t → (p : ℕ) → slice_get (b ∷ cs) p ≡ Some r → ((p : ℕ) (r : R) → slice_get cs p ≡ Some r → waits r ≡ true → Taken cs (suc i) p) →
          Taken (b ∷ cs) i p
      go true q p e rest = record { place = 0; channel = b; number = i; is = rw q; from = omega arith; to = omega arith; holds = refl; waiting = q }
      go false q zero e rest = contradiction (sym q ∙ ap (λ (o : Option R). of_some o) e ∙ h)
      go false q (suc p) e rest =
          let t = rest p r e h in
          record { place = suc t.place; channel = t.channel; number = t.number; is = rw q t.is; from = omega (arith, t.from); to = omega (arith, t.to); holds = t.holds; waiting = t.waiting }

  -- the channel that is next in a round from start
  module _ (start : ℕ) (cs : List R) where
    pub record Next (j : ℕ) (c : R) : Type 0 where
      pub holds : slice_get cs j ≡ Some c
      pub waiting : waits c ≡ true

    pub next_in : start ≤ length cs → (j : ℕ) (c : R) → waiting_from waits start cs ≡ Some (j, c) → Next j c
    unfolding waiting_from
    next_in l j c e = go (first_waiting waits start (drop start cs)) refl
      where
        go : (o : Option (ℕ × R)) → first_waiting waits start (drop start cs) ≡ o → Next j c
        go None q =
            let f = first_found 0 (take start cs) j c (rw q at e) in
            let same : j ≡ f.place = omega (arith, f.number) in
            rw same (record { holds = sym (at_take start f.place cs (in_take start f.place cs c f.holds)) ∙ f.holds; waiting = f.waiting })
        go (Some p) q =
            let f = first_found start (drop start cs) j c (q ∙ (rw q at e)) in
            record { holds = sym (at_drop start f.place j cs f.number) ∙ f.holds; waiting = f.waiting }

    -- 'going round': where it stands, beside a place p that waits
    abbrev pub Order : ℕ → ℕ → Type 0
    Order j p = ((start ≤ j) × (start ≤ p) × (j ≤ p)) ⊎ (((start ≤ j) × (p < start)) ⊎ ((j ≤ p) × (p < start)))

    pub record Turn (p : ℕ) : Type 0 where
      pub number : ℕ
      pub channel : R
      pub is : waiting_from waits start cs ≡ Some (number, channel)
      pub holds : slice_get cs number ≡ Some channel
      pub order : Order number p

    pub turn : (p : ℕ) (r : R) → slice_get cs p ≡ Some r → waits r ≡ true → Turn p
    unfolding waiting_from
    turn p r e h = go (leb start p) refl
      where
        go : (t : Bool) → leb start p ≡ t → Turn p
        go true q =
            let l = leb-true start p q in
            let here : p ≡ start + (p - start) = omega (arith, l) in
            let t = first_taken start (drop start cs) (p - start) r (at_drop start (p - start) p cs here ∙ e) h in
            record {
              number = t.number;
              channel = t.channel;
              is = rw t.is;
              holds = sym (at_drop start t.place t.number cs t.from) ∙ t.holds;
              order = inl (omega (arith, t.from), l, omega (arith, t.from, t.to, l));
            }
        go false q = round (first_waiting waits start (drop start cs)) refl
          where
            l : p < start
            l = leb-false start p q

            round : (o : Option (ℕ × R)) → first_waiting waits start (drop start cs) ≡ o → Turn p
            round None a =
                let t = first_taken 0 (take start cs) p r (at_take start p cs l ∙ e) h in
                let same : t.number ≡ t.place = omega (arith, t.from) in
                let below : t.place < start = omega (arith, t.to, l) in
                record {
                  number = t.number;
                  channel = t.channel;
                  is = rw (a, t.is);
                  holds = rw same (sym (at_take start t.place cs below) ∙ t.holds);
                  order = inr (inr (omega (arith, t.from, t.to), l));
                }
            round (Some (j, c)) a =
                let f = first_found start (drop start cs) j c a in
                record { number = j; channel = c; is = rw a; holds = sym (at_drop start f.place j cs f.number) ∙ f.holds; order = inr (inl (omega (arith, f.number), l)) }

-- how many channels of n stand before p, going round from start
abbrev pub before : ℕ → ℕ → ℕ → ℕ
before start p n = cond (leb start p) (p - start) (n - start + p)

pub before_less : (start p n : ℕ) → start ≤ n → p < n → before start p n < n
before_less start p n a b = go (leb start p) refl
  where
    go : (t : Bool) → leb start p ≡ t → before start p n < n
    go true q = rw q (omega arith)
    go false q = rw q (omega (arith, leb-false start p q))

-- fewer after a step that serves another
pub nearer : (start p n j : ℕ) → start ≤ n → p < n → j < n → (j ≡ p → ⊥) →
    ((start ≤ j) × (start ≤ p) × (j ≤ p)) ⊎ (((start ≤ j) × (p < start)) ⊎ ((j ≤ p) × (p < start))) →
    before (suc j) p n < before start p n
nearer start p n j a b d o (inl (x, y, z)) = rw (le-leb (suc j) p (omega (arith, o)), le-leb start p y) (omega (arith, o))
nearer start p n j a b d o (inr (inl (x, y))) = rw (lt-leb (suc j) p (omega arith), lt-leb start p y) (omega arith)
nearer start p n j a b d o (inr (inr (x, y))) = rw (le-leb (suc j) p (omega (arith, o)), lt-leb start p y) (omega (arith, o))

pub start_le : (last : Option ℕ) (n : ℕ) → start_of last n ≤ n
start_le None n = omega arith
start_le (Some j) n = go (ltb j n) refl
  where
    go : (t : Bool) → ltb j n ≡ t → start_of (Some j) n ≤ n
    go true q = rw q (omega (arith, ltb-true j n q))
    go false q = rw q (omega arith)
