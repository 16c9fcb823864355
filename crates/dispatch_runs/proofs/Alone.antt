-- A channel's answers are those of its searcher by itself on its own inputs, so they are the same in any two runs with the same searcher and inputs.
use mathlib.Core.Path.{◌≡◌, refl, sym, ap, ◌∙◌}
use mathlib.Core.Bool.{Bool, true, false, cond}
use mathlib.Core.List.{List, [], ◌∷◌}
use mathlib.Core.Logic.{◌⊎◌, inl, inr}
use Prim.Native.Nat.{ℕ}
use lib.Dec.{ltb, eqb}
use lib.IntN.{pos}
use lib.ListN.{length, set}
use borrow.Author.Tests.{eqb-true, eqb-false}
use Rattle.std.specs.Prelude.{Option, Some, None, slice_get}
use Rattle.refusal.specs.Refused.{Told, values, refused}
use Rattle.refusal.specs.Checks.{Outcome, within}
use Rattle.dispatch.specs.Services.{Kind, State, start_of, mark_of, alter}
use Rattle.dispatch_runs.specs.Runs.{Entry, serve, mark, tell, stepped, marked, Step, step, run}
use Rattle.dispatch_runs.specs.Statement.{and_input, own_inputs, and_answer, own_answers, alone, Isolated, AsAlone}
use Rattle.dispatch_runs.proofs.Places.{at_set, beside_set, altered_at}
use Rattle.dispatch_runs.proofs.Rounds.{next_in, start_le}
use Rattle.dispatch_runs.proofs.Steps.{Lawful, service, Refused, Serves, step_is}

some_same : {R : Type 0} {a b : R} → Some a ≡ Some b → a ≡ b
some_same {R} {a} e = ap got e
  where
    got : Option R → R
    got None = a
    got (Some c) = c

module _ {R S X A : Type 0} (kind : Kind R X A) (searcher : R → S) (search : S → X → Outcome A S) (law : Lawful kind searcher search) where
  -- after an entry: the record of channel c, and what the entry adds to its inputs and answers
  pub record Owns (c : ℕ) (r : R) (s : Step R X A) : Type 0 where
    pub channel : R
    pub holds : slice_get s.after.channels c ≡ Some channel
    pub adds : (xs : List X) → and_answer c s.event (alone search (searcher channel) xs) ≡ alone search (searcher r) (and_input c s.event xs)

  -- nothing of its own, and its searcher as it was
  module _ (σ : State R) (c : ℕ) (r : R) (h : slice_get σ.channels c ≡ Some r) where
    of_service : (x : X) (j : ℕ) (b : R) → slice_get σ.channels j ≡ Some b →
        Owns c r (let o = service kind σ x j b in record { event = stepped x o.answer; after = o.after })
    of_service x j b e = go (eqb j c) refl
      where
        q : R
        q = (kind.search b x).after

        go : (t : Bool) → eqb j c ≡ t → Owns c r (let o = service kind σ x j b in record { event = stepped x o.answer; after = o.after })
        go true t =
            let p = eqb-true j c t in
            let same : b ≡ r = some_same (sym e ∙ ap (slice_get σ.channels) p ∙ h) in
            record {
              channel = q;
              holds = ap (slice_get (set σ.channels j q)) (sym p) ∙ at_set σ.channels j q b e;
              adds = λ xs. rw t
                  (ap (λ (a : Told A). a ∷ alone search (searcher q) xs) (law.answers b x)
                  ∙ ap (λ (s : S). (search (searcher b) x).answer ∷ alone search s xs) (law.leaves b x)
                  ∙ ap (λ (a : R). alone search (searcher a) (x ∷ xs)) same);
            }
        go false t = record { channel = r; holds = beside_set σ.channels j c q (eqb-false j c t) ∙ h; adds = λ xs. rw t refl }

    of_serve : (x : X) → Owns c r (step kind σ (serve x))
    of_serve x = go (step_is kind σ x)
      where
        go : Refused kind σ x ⊎ Serves kind σ x → Owns c r (step kind σ (serve x))
        go (inl n) = rw n.is (record { channel = r; holds = h; adds = λ xs. refl })
        go (inr n) =
            let f = next_in kind.waits (start_of σ.last (length σ.channels)) σ.channels (start_le σ.last (length σ.channels)) n.number n.channel n.next in
            rw n.is (of_service x n.number n.channel f.holds)

    of_mark : (i : ℕ) → Owns c r (step kind σ (mark i))
    unfolding mark_of
    of_mark i = go (within 1 24 (length σ.channels)) (ltb i (length σ.channels)) (altered_at kind.mark i c σ.channels r h)
      where
        ok : Outcome (Unit {0}) (List R)
        ok = record { answer = values tt; after = alter kind.mark i σ.channels }

        go : (t u : Bool) → (slice_get (alter kind.mark i σ.channels) c ≡ Some r) ⊎ (slice_get (alter kind.mark i σ.channels) c ≡ Some (kind.mark r)) →
            Owns c r
            (let o : Outcome (Unit {0}) (List R) =
            cond t (cond u ok (record { answer = refused 16 (pos i); after = σ.channels })) (record { answer = refused 15 (pos (length σ.channels)); after = σ.channels })
            in record { event = marked i o.answer; after = record { channels = o.after; last = σ.last } })
        go false u a = record { channel = r; holds = h; adds = λ xs. refl }
        go true false a = record { channel = r; holds = h; adds = λ xs. refl }
        go true true (inl a) = record { channel = r; holds = a; adds = λ xs. refl }
        go true true (inr a) = record { channel = kind.mark r; holds = a; adds = λ xs. ap (λ (s : S). alone search s xs) (law.mark_keeps r) }

    of_entry : (e : Entry X) → Owns c r (step kind σ e)
    of_entry (serve x) = of_serve x
    of_entry (mark i) = of_mark i
    of_entry tell = record { channel = r; holds = h; adds = λ xs. refl }

  all : (es : List (Entry X)) (σ : State R) (c : ℕ) (r : R) → slice_get σ.channels c ≡ Some r →
      own_answers c (run kind σ es) ≡ alone search (searcher r) (own_inputs c (run kind σ es))
  unfolding run
  all [] σ c r h = refl
  all (e ∷ es) σ c r h =
      let o = of_entry σ c r h e in
      let ss = run kind (step kind σ e).after es in
      ap (and_answer c (step kind σ e).event) (all es (step kind σ e).after c o.channel o.holds) ∙ o.adds (own_inputs c ss)

  pub as_alone : AsAlone kind searcher search
  unfolding AsAlone
  as_alone σ es c r h = all es σ c r h

  pub isolated : Isolated kind searcher
  unfolding Isolated
  isolated σ τ es fs c d r q h k s i =
      all es σ c r h
      ∙ ap (alone search (searcher r)) i
      ∙ ap (λ (t : S). alone search t (own_inputs d (run kind τ fs))) s
      ∙ sym (all fs τ d q k)
