-- What one step of a dispatcher does: it serves the channel that is next, or it is refused and changes nothing.
use mathlib.Core.Path.{◌≡◌, refl}
use mathlib.Core.Bool.{Bool, true, false}
use mathlib.Core.List.{[], ◌∷◌}
use mathlib.Core.Logic.{◌⊎◌, inl, inr}
use Prim.Native.Nat.{ℕ}
use lib.IntN.{ℤ, pos}
use lib.ListN.{length}
use Rattle.std.specs.Prelude.{Option, Some, None}
use Rattle.refusal.specs.Refused.{values, refused, accepts, put}
use Rattle.refusal.specs.Checks.{Outcome, within, channel_count, channel_number}
use Rattle.refusal.proofs.Checkings.{kept}
use Rattle.refusal.proofs.Answers.{nothing}
use Rattle.dispatch.specs.Services.{Kind, State, Served, next_waiting, served_by, next_of, serve_of, mark_of, alter}
use Rattle.dispatch_runs.specs.Statement.{ToldIsServed, NothingChanged}

-- what is asked of a kind of record: its search is that of its searcher, and clears the mark; a mark keeps the searcher
pub record Lawful {R S X A : Type 0} (kind : Kind R X A) (searcher : R → S) (search : S → X → Outcome A S) : Type 0 where
  pub mark_waits : (r : R) → kind.waits (kind.mark r) ≡ true
  pub mark_keeps : (r : R) → searcher (kind.mark r) ≡ searcher r
  pub answers : (r : R) (x : X) → (kind.search r x).answer ≡ (search (searcher r) x).answer
  pub leaves : (r : R) (x : X) → searcher (kind.search r x).after ≡ (search (searcher r) x).after
  pub clears : (r : R) (x : X) → kind.waits (kind.search r x).after ≡ false
  pub refused_keeps : (s : S) (x : X) → accepts (search s x).answer ≡ false → (search s x).after ≡ s

module _ {R X A : Type 0} (kind : Kind R X A) where
  -- what a step answers and leaves that serves channel j by its record c
  abbrev pub service : State R → X → ℕ → R → Outcome (Served A) (State R)
  service σ x j c = let o = kind.search c x in record { answer = values (served_by kind σ j o).0; after = (served_by kind σ j o).1 }

  pub served : (σ : State R) (x : X) (j : ℕ) (c : R) → within 1 24 (length σ.channels) ≡ true → next_waiting kind σ ≡ Some (j, c) → serve_of kind σ x ≡ service σ x j c
  unfolding serve_of
  served σ x j c a e = rw (a, e)

  -- of every list
  pub record Refused (σ : State R) (x : X) : Type 0 where
    pub number : ℕ
    pub detail : ℤ
    pub is : serve_of kind σ x ≡ record { answer = refused number detail; after = σ }

  pub record Serves (σ : State R) (x : X) : Type 0 where
    pub number : ℕ
    pub channel : R
    pub next : next_waiting kind σ ≡ Some (number, channel)
    pub is : serve_of kind σ x ≡ service σ x number channel

  pub step_is : (σ : State R) (x : X) → Refused σ x ⊎ Serves σ x
  unfolding serve_of
  step_is σ x = go (within 1 24 (length σ.channels)) refl (next_waiting kind σ) refl
    where
      go : (t : Bool) → within 1 24 (length σ.channels) ≡ t → (o : Option (ℕ × R)) → next_waiting kind σ ≡ o → Refused σ x ⊎ Serves σ x
      go false q o e = inl (record { number = 15; detail = pos (length σ.channels); is = rw q })
      go true q None e = inl (record { number = 17; detail = pos 0; is = rw (q, e) })
      go true q (Some (j, c)) e = inr (record { number = j; channel = c; next = e; is = rw (q, e) })

  pub told_is_served : ToldIsServed kind
  unfolding ToldIsServed serve_of next_of
  told_is_served σ x = go (within 1 24 (length σ.channels)) refl (next_waiting kind σ) refl
    where
      go : (t : Bool) → within 1 24 (length σ.channels) ≡ t → (o : Option (ℕ × R)) → next_waiting kind σ ≡ o →
          put (λ (s : Served A). s.channel) (serve_of kind σ x).answer ≡ next_of kind σ
      go false q o e = rw q
      go true q None e = rw (q, e)
      go true q (Some (j, c)) e = rw (q, e)

  pub nothing_changed : NothingChanged kind
  unfolding NothingChanged serve_of mark_of
  nothing_changed = ((λ σ x e. nothing σ _ e), (λ cs k e. kept cs (record { answer = values tt; after = alter kind.mark k cs }) (channel_count (length cs) ∷ channel_number (length cs) k ∷ []) refl e))
