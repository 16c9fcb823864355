-- Demand 3: one statement on a list of any length.
use Rattle.std.specs.Prelude.{◌≡◌, Bool, true, false, cond, ◌||◌, List, [], ◌∷◌, ◌⊎◌, ℕ, ◌+◌, ◌%◌, ◌≤◌, ◌<◌, eqb}
use Rattle.refusal.specs.Refused.{values, accepts}
use Rattle.pitch.specs.declared.UpperLag.{UpperLag}
use Rattle.recovery.specs.Runs.{Entry, Place, Event, at_place, search_refused, frame_refused, made_fresh, strayed, Step, State, fresh_state, run}

-- the last place with no reset after it
pub data Last : Type 0 where
  none : Last
  last : Place → Last

-- and after an event
abbrev pub last_after : Last → Event → Last
last_after m (at_place p) = last p
last_after m (search_refused n d) = m
last_after m (frame_refused n d) = m
last_after m made_fresh = none
last_after m (strayed n i r) = m

-- 01: 'Due is 1 at the start and after a reset, else the number after the last place's, with 1 after 4'
abbrev pub due : Last → ℕ
due none = 1
due (last q) = q.subframe % 4 + 1

-- subframe one or three
abbrev pub one_or_three : ℕ → Bool
one_or_three n = eqb n 1 || eqb n 3

-- 01: 'An index is *intact* where the arriving one is the one that the search answered'
abbrev pub Intact : Place → Type 0
Intact p = p.arrived ≡ p.sent.index

-- 01: a place '*directly follows* the last place before it with no reset between'; here, that this one is intact
abbrev pub FollowsIntact : Last → Type 0
FollowsIntact none = ⊥
FollowsIntact (last q) = Intact q

-- ---- of an event, with the last place before it and the states round it: the two hypotheses and the conclusion
-- an arriving index is as wide as an index of its subframe is sent: eight bits in one and three, five in two and four
abbrev pub WithinWidth : Last → State → Event → State → Type 0
WithinWidth m σ (at_place p) τ = p.arrived ≤ cond (one_or_three p.subframe) 255 31
WithinWidth m σ (search_refused n d) τ = Unit {0}
WithinWidth m σ (frame_refused n d) τ = Unit {0}
WithinWidth m σ made_fresh τ = Unit {0}
WithinWidth m σ (strayed n i r) τ = Unit {0}

-- 01: 'A stray reading: a subframe number other than the one due, or an index above 31 in subframe two or four'
abbrev pub Stray : Last → State → Event → State → Type 0
Stray m σ (at_place p) τ = Unit {0}
Stray m σ (search_refused n d) τ = Unit {0}
Stray m σ (frame_refused n d) τ = Unit {0}
Stray m σ made_fresh τ = Unit {0}
Stray m σ (strayed n i r) τ = (n ≡ due m → ⊥) ⊎ (((n ≡ 2) ⊎ (n ≡ 4)) × (31 < i))

-- a place: the reader answers, and it answers the search's whole lag and fraction where the index is intact and the place is subframe one or three or
-- directly follows an intact one. A refused search or frame hands it nothing, a stray reading is refused, and all change nothing. A reset makes both fresh.
abbrev pub Recovers : UpperLag → Last → State → Event → State → Type 0
Recovers upper m σ (at_place p) τ =
    (accepts p.reading ≡ true) × (Intact p → (one_or_three p.subframe ≡ true) ⊎ FollowsIntact m → p.reading ≡ values p.sent.lag)
Recovers upper m σ (search_refused n d) τ = τ ≡ σ
Recovers upper m σ (frame_refused n d) τ = τ ≡ σ
Recovers upper m σ made_fresh τ = τ ≡ fresh_state upper
Recovers upper m σ (strayed n i r) τ = (accepts r ≡ false) × (τ ≡ σ)

-- of every event of a run
abbrev pub Each : (Last → State → Event → State → Type 0) → Last → List Step → Type 0
Each P m [] = Unit {0}
Each P m (s ∷ ss) = P m s.before s.event s.after × Each P (last_after m s.event) ss

-- the statement, for a handset and for a player
unfoldable pub Recovery : Type 0
Recovery =
    (upper : UpperLag) (es : List Entry) →
    Each WithinWidth none (run (fresh_state upper) es) →
    Each Stray none (run (fresh_state upper) es) →
    Each (Recovers upper) none (run (fresh_state upper) es)
