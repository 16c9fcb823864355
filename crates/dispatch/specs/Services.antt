-- 02, request 11: a dispatcher over a list of channel records. It is said once, of every kind of record: one that holds a searcher and one that holds its numbers.
use Rattle.std.specs.Prelude.{Option, Some, None, Bool, true, false, cond, List, [], ◌∷◌, ℕ, zero, suc, pos, ltb, length, take, drop, slice_set}
use Rattle.refusal.specs.Refused.{Told, values, refused}
use Rattle.refusal.specs.Checks.{Check, Outcome, unless_refused, checked, whole_or_nothing, channel_count, channel_number}

-- a kind of record R: whether its channel waits; a search with an input X, and the record after it; and the record with its mark set
pub record Kind (R X A : Type 0) : Type 0 where
  pub waits : R → Bool
  pub search : R → X → Outcome A R
  pub mark : R → R

-- the kind of a record that holds a searcher S and a mark: 'The mark is cleared .. even if the search is refused', and a mark keeps the searcher
abbrev pub kind_of : {R S X A : Type 0} → (R → S) → (R → Bool) → (S → Bool → R) → (S → X → Outcome A S) → Kind R X A
kind_of searcher waits made search =
    record {
      waits = waits;
      search = λ r x. let o = search (searcher r) x in record { answer = o.answer; after = made o.after false };
      mark = λ r. made (searcher r) true;
    }

-- the list that is lent, and the last served number
pub record State (R : Type 0) : Type 0 where
  pub channels : List R
  pub last : Option ℕ

-- 'answering the channel's number and what the search answers'
pub record Served (A : Type 0) : Type 0 where
  pub channel : ℕ
  pub found : Told A

-- 'When fresh, or when the last served number lies beyond the list, it looks from the first channel', else from the one after it
abbrev pub start_of : Option ℕ → ℕ → ℕ
start_of None n = 0
start_of (Some j) n = cond (ltb j n) (suc j) 0

-- the first channel of a list that waits, and its number, where the list's first number is i
abbrev pub first_waiting : {R : Type 0} → (R → Bool) → ℕ → List R → Option (ℕ × R)
first_waiting waits i [] = None
first_waiting waits i (c ∷ cs) = cond (waits c) (Some (i, c)) (first_waiting waits (suc i) cs)

abbrev pub or_else : {A : Type 0} → Option A → Option A → Option A
or_else None b = b
or_else (Some a) b = Some a

-- 'going round': from the start to the end of the list, then from 0 to the start
unfoldable pub waiting_from : {R : Type 0} → (R → Bool) → ℕ → List R → Option (ℕ × R)
waiting_from waits start cs = or_else (first_waiting waits start (drop start cs)) (first_waiting waits 0 (take start cs))

-- the record of one number changed, where the list has it
abbrev pub alter : {R : Type 0} → (R → R) → ℕ → List R → List R
alter f k [] = []
alter f zero (c ∷ cs) = f c ∷ cs
alter f (suc k) (c ∷ cs) = c ∷ alter f k cs

module _ {R X A : Type 0} (kind : Kind R X A) where
  -- 'the first waiting channel after the last one served'
  abbrev pub next_waiting : State R → Option (ℕ × R)
  next_waiting σ = waiting_from kind.waits (start_of σ.last (length σ.channels)) σ.channels

  -- number 15
  abbrev pub list_checks : State R → List Check
  list_checks σ = channel_count (length σ.channels) ∷ []

  -- number 17, or what follows with the channel that is next
  abbrev pub with_next : {B : Type 0} → Option (ℕ × R) → (ℕ → R → Told B) → Told B
  with_next None next = refused 17 (pos 0)
  with_next (Some (j, c)) next = next j c

  -- 'The caller can be told beforehand which channel is next'
  unfoldable pub next_of : State R → Told ℕ
  next_of σ = checked (list_checks σ) refused (with_next (next_waiting σ) (λ j c. values j))

  -- a search by the record c of channel j: the record after it is stored, and 'the channel counts as served'
  abbrev pub served_by : State R → ℕ → Outcome A R → Served A × State R
  served_by σ j o = (record { channel = j; found = o.answer }, record { channels = slice_set σ.channels j o.after; last = Some j })

  -- a service step
  unfoldable pub serve_of : State R → X → Outcome (Served A) (State R)
  serve_of σ x = whole_or_nothing σ (checked (list_checks σ) refused (with_next (next_waiting σ) (λ j c. values (served_by σ j (kind.search c x)))))

  -- a mark
  unfoldable pub mark_of : List R → ℕ → Outcome (Unit {0}) (List R)
  mark_of cs k = unless_refused (channel_count (length cs) ∷ channel_number (length cs) k ∷ []) cs (record { answer = values tt; after = alter kind.mark k cs })
