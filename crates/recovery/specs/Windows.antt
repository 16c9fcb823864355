-- 02, request 08: where the start that the reader keeps is the searcher's. A statement beside demand 3's, on the same list, its run and its two hypotheses.
use Rattle.std.specs.Prelude.{◌≡◌, List, ◌⊎◌}
use Rattle.pitch.specs.declared.UpperLag.{UpperLag}
use Rattle.recovery.specs.Runs.{Entry, Event, at_place, search_refused, frame_refused, made_fresh, strayed, State, fresh_state, run}
use Rattle.recovery.specs.Statement.{Last, none, FollowsIntact, WithinWidth, Stray, Each}

-- of a place: 'In a subframe two or four that directly follows an intact index, reader and searcher have the same start, even if its own index is damaged'
abbrev pub SameStart : Last → State → Event → State → Type 0
SameStart m σ (at_place p) τ = (p.subframe ≡ 2) ⊎ (p.subframe ≡ 4) → FollowsIntact m → τ.reader.start ≡ τ.searcher.start
SameStart m σ (search_refused n d) τ = Unit {0}
SameStart m σ (frame_refused n d) τ = Unit {0}
SameStart m σ made_fresh τ = Unit {0}
SameStart m σ (strayed n i r) τ = Unit {0}

-- the statement, for a handset and for a player
unfoldable pub WindowsAgree : Type 0
WindowsAgree =
    (upper : UpperLag) (es : List Entry) →
    Each WithinWidth none (run (fresh_state upper) es) →
    Each Stray none (run (fresh_state upper) es) →
    Each SameStart none (run (fresh_state upper) es)
