-- A waiting channel is served within as many steps as there are channels: a step that serves another leaves fewer before it, and no mark changes that.
use mathlib.Core.Path.{◌≡◌, refl, ◌∙◌}
use mathlib.Core.Bool.{Bool, true, false, cond}
use mathlib.Core.List.{List, [], ◌∷◌}
use mathlib.Core.Logic.{◌⊎◌, inl, inr}
use Prim.Native.Nat.{ℕ, zero, suc, ◌<◌}
use native.Mathlib.Omega.{arith}
use lib.Dec.{ltb, eqb}
use lib.IntN.{pos}
use lib.ListN.{length, set}
use Rattle.std.proofs.lemmas.List.{length-set}
use borrow.Author.Tests.{lt-ltb, eqb-true, eqb-false}
use Rattle.std.specs.Prelude.{Some, slice_get}
use Rattle.std.proofs.lemmas.Option.{slice_get_within}
use Rattle.refusal.specs.Refused.{values, refused}
use Rattle.refusal.specs.Checks.{Outcome, within}
use Rattle.dispatch.specs.Services.{Kind, State, start_of, mark_of, alter}
use Rattle.dispatch_runs.specs.Runs.{Entry, serve, mark, tell, step, run}
use Rattle.dispatch_runs.specs.Statement.{Then, ServedWithin, Fair}
use Rattle.dispatch_runs.proofs.Places.{beside_set, altered_length, altered_at}
use Rattle.dispatch_runs.proofs.Rounds.{turn, before, before_less, nearer, start_le}
use Rattle.dispatch_runs.proofs.Steps.{service, served}

module _ {R X A : Type 0} (kind : Kind R X A) (mark_waits : (r : R) → kind.waits (kind.mark r) ≡ true) where
  abbrev count : State R → ℕ
  count σ = length σ.channels

  -- channel c waits, and fewer than k channels stand before it
  pub record Waits (σ : State R) (c k : ℕ) : Type 0 where
    pub listed : within 1 24 (count σ) ≡ true
    pub channel : R
    pub holds : slice_get σ.channels c ≡ Some channel
    pub waiting : kind.waits channel ≡ true
    pub near : before (start_of σ.last (count σ)) c (count σ) < k

  -- what the rest of a run is known to be, from each list on which channel c waits
  module _ (c : ℕ) (rest : State R → ℕ → Type 0) where
    abbrev Rest : ℕ → Type 0
    Rest k = (τ : State R) → Waits τ c k → rest τ k

    -- a service step
    passed_by : (σ : State R) (x : X) (k j : ℕ) (b : R) → (h : Waits σ c (suc k)) → slice_get σ.channels j ≡ Some b → (j ≡ c → ⊥) →
        before (suc j) c (count σ) < before (start_of σ.last (count σ)) c (count σ) → Waits (service kind σ x j b).after c k
    passed_by σ x k j b h l d v =
        let q = (kind.search b x).after in
        let e : length (set σ.channels j q) ≡ count σ = length-set σ.channels j q in
        record {
          listed = rw e h.listed;
          channel = h.channel;
          holds = beside_set σ.channels j c q d ∙ h.holds;
          waiting = h.waiting;
          near = rw (e, lt-ltb j (count σ) (slice_get_within σ.channels j b l)) (omega (arith, v, h.near));
        }

    at_serve : (σ : State R) (x : X) (k : ℕ) → Waits σ c (suc k) → Rest k → Then c (suc k) (step kind σ (serve x)).event (rest (step kind σ (serve x)).after)
    at_serve σ x k h go =
        let start = start_of σ.last (count σ) in
        let inside = slice_get_within σ.channels c h.channel h.holds in
        let t = turn kind.waits start σ.channels c h.channel h.holds h.waiting in
        let at = slice_get_within σ.channels t.number t.channel t.holds in
        rw (served kind σ x t.number t.channel h.listed t.is)
        (either t.number t.channel t.holds (λ d. nearer start c (count σ) t.number (start_le σ.last (count σ)) inside at d t.order))
      where
        either : (j : ℕ) (b : R) → slice_get σ.channels j ≡ Some b → ((j ≡ c → ⊥) → before (suc j) c (count σ) < before (start_of σ.last (count σ)) c (count σ)) →
            (j ≡ c) ⊎ rest (service kind σ x j b).after k
        either j b l v = test (eqb j c) refl
          where
            test : (t : Bool) → eqb j c ≡ t → (j ≡ c) ⊎ rest (service kind σ x j b).after k
            test true q = inl (eqb-true j c q)
            test false q = let d = eqb-false j c q in inr (go (service kind σ x j b).after (passed_by σ x k j b h l d (v d)))

    -- a mark
    marking : (σ : State R) (i k : ℕ) → Waits σ c k → Waits (record { channels = alter kind.mark i σ.channels; last = σ.last }) c k
    marking σ i k h =
        let e = altered_length kind.mark i σ.channels in
        go (altered_at kind.mark i c σ.channels h.channel h.holds) (rw e h.listed) (rw e h.near)
      where
        τ : State R
        τ = record { channels = alter kind.mark i σ.channels; last = σ.last }

        go : (slice_get τ.channels c ≡ Some h.channel) ⊎ (slice_get τ.channels c ≡ Some (kind.mark h.channel)) → within 1 24 (count τ) ≡ true →
            before (start_of τ.last (count τ)) c (count τ) < k → Waits τ c k
        go (inl a) l n = record { listed = l; channel = h.channel; holds = a; waiting = h.waiting; near = n }
        go (inr a) l n = record { listed = l; channel = kind.mark h.channel; holds = a; waiting = mark_waits h.channel; near = n }

    abbrev ok : State R → ℕ → Outcome (Unit {0}) (List R)
    ok σ i = record { answer = values tt; after = alter kind.mark i σ.channels }

    abbrev no : State R → ℕ → Outcome (Unit {0}) (List R)
    no σ i = record { answer = refused 16 (pos i); after = σ.channels }

    at_mark : (σ : State R) (i k : ℕ) → Waits σ c k → Rest k → Then c k (step kind σ (mark i)).event (rest (step kind σ (mark i)).after)
    unfolding mark_of
    at_mark σ i k h go = rw h.listed (known (ltb i (count σ)) refl)
      where
        known : (t : Bool) → ltb i (count σ) ≡ t → rest (record { channels = (cond t (ok σ i) (no σ i)).after; last = σ.last }) k
        known true q = go _ (marking σ i k h)
        known false q = go σ h

  all : (es : List (Entry X)) (σ : State R) (c k : ℕ) → Waits σ c k → ServedWithin c k (run kind σ es)
  unfolding run
  all [] σ c k h = tt
  all (serve x ∷ es) σ c zero h = absurd (omega (arith, h.near))
  all (serve x ∷ es) σ c (suc k) h = at_serve c (λ τ m. ServedWithin c m (run kind τ es)) σ x k h (λ τ v. all es τ c k v)
  all (mark i ∷ es) σ c k h = at_mark c (λ τ m. ServedWithin c m (run kind τ es)) σ i k h (λ τ v. all es τ c k v)
  all (tell ∷ es) σ c k h = all es σ c k h

  pub fair : Fair kind
  unfolding Fair
  fair σ es c r l h w =
      all es σ c _
      (record {
        listed = l;
        channel = r;
        holds = h;
        waiting = w;
        near = omega (arith, before_less (start_of σ.last (count σ)) c (count σ) (start_le σ.last (count σ)) (slice_get_within σ.channels c r h));
      })
