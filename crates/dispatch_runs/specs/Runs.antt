-- 02, request 11: a run of a dispatcher, where 'only steps and marks touch it and the last served number', and a caller is told which channel is next. Step, mark and
-- telling are those of the contracts, by their own definitions.
use Rattle.std.specs.Prelude.{List, [], ◌∷◌, ℕ}
use Rattle.refusal.specs.Refused.{Told}
use Rattle.dispatch.specs.Services.{Kind, State, Served, next_of, serve_of, mark_of}

-- an entry of a run: a service step with its inputs, a mark, a telling
pub data Entry (X : Type 0) : Type 0 where
  serve : X → Entry X
  mark : ℕ → Entry X
  tell : Entry X

-- what it was handed, and what it answered
pub data Event (X A : Type 0) : Type 0 where
  stepped : X → Told (Served A) → Event X A
  marked : ℕ → Told (Unit {0}) → Event X A
  told_next : Told ℕ → Event X A

-- an event, and the list and the last served number after it
pub record Step (R X A : Type 0) : Type 0 where
  pub event : Event X A
  pub after : State R

module _ {R X A : Type 0} (kind : Kind R X A) where
  abbrev pub step : State R → Entry X → Step R X A
  step σ (serve x) = let o = serve_of kind σ x in record { event = stepped x o.answer; after = o.after }
  step σ (mark k) = let o = mark_of kind σ.channels k in record { event = marked k o.answer; after = record { channels = o.after; last = σ.last } }
  step σ tell = record { event = told_next (next_of kind σ); after = σ }

  -- each entry gets the list and the last served number as the one before left them
  unfoldable pub run : State R → List (Entry X) → List (Step R X A)
  run σ [] = []
  run σ (e ∷ es) = step σ e ∷ run (step σ e).after es
