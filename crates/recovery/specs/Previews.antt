-- 02, request 07: demand 3's list with previews anywhere in it. The steps of its run are those of the list without them, so what is said of these holds there too.
use Rattle.std.specs.Prelude.{◌≡◌, List, [], ◌∷◌, ◌++◌, map, pos}
use Rattle.refusal.specs.Refused.{Told, values, refused}
use Rattle.refusal.specs.Checks.{Outcome}
use Rattle.pitch.specs.declared.UpperLag.TheVariants.{Player, Handset}
use Rattle.pitch_search.specs.declared.Search.{Search}
use Rattle.pitch_search.specs.declared.SearchedPitch.{SearchedPitch}
use Rattle.pitch_search.specs.Previews.{preview_of}
use Rattle.pitch_search.specs.Inputs.{Input, silent_at}
use Rattle.recovery.specs.Runs.{State, Entry, search, reset, Event, at_place, made_fresh, Step, fresh_state, steps, after_all, run}
use Rattle.recovery.specs.Example.{silent, lag_82, lag_85}

-- an entry of demand 3's list, or a preview of a search
pub data Call : Type 0 where
  entry : Entry → Call
  preview : Input → Call

-- what comes of it: the entry's steps, or what the preview answers
pub data Seen : Type 0 where
  stepped : Step → Seen
  shown : Told SearchedPitch → Seen

-- a preview of an input
abbrev pub previewed : Search → Input → Outcome SearchedPitch Search
previewed s x = preview_of s x.excitation x.target x.impulse x.first x.second x.subframe

-- searcher and reader after it
abbrev pub after_preview : State → Input → State
after_preview σ x = record { searcher = (previewed σ.searcher x).after; reader = σ.reader }

-- the run of such a list, as `run` has it
unfoldable pub run_calls : State → List Call → List Seen
run_calls σ [] = []
run_calls σ (entry e ∷ cs) = map stepped (steps σ e) ++ run_calls (after_all σ (steps σ e)) cs
run_calls σ (preview x ∷ cs) = shown (previewed σ.searcher x).answer ∷ run_calls (after_preview σ x) cs

-- the list without its previews
abbrev pub entries : List Call → List Entry
entries [] = []
entries (entry e ∷ cs) = e ∷ entries cs
entries (preview x ∷ cs) = entries cs

-- the steps of a run
abbrev pub steps_seen : List Seen → List Step
steps_seen [] = []
steps_seen (stepped s ∷ ss) = s ∷ steps_seen ss
steps_seen (shown a ∷ ss) = steps_seen ss

-- and what its previews answered
abbrev pub answers_shown : List Seen → List (Told SearchedPitch)
answers_shown [] = []
answers_shown (stepped s ∷ ss) = answers_shown ss
answers_shown (shown a ∷ ss) = a ∷ answers_shown ss

-- the statement, from every searcher and reader
unfoldable pub PreviewsChangeNothing : Type 0
PreviewsChangeNothing = (σ : State) (cs : List Call) → steps_seen (run_calls σ cs) ≡ run σ (entries cs)

-- ---- by computing: a handset's list, with previews before each search, of the subframe that was sent, and after a reset
unfoldable pub tried : List Call
tried =
    preview (silent 1)
    ∷ entry (search (silent 1) 189)
    ∷ preview (silent 1)
    ∷ preview (silent 2)
    ∷ entry (search (silent 2) 27)
    ∷ entry reset
    ∷ preview (silent 1)
    ∷ []

-- each index before it is sent; subframe 1 again is refused, 2 is expected
unfoldable pub shown_first : List (Told SearchedPitch)
shown_first =
    values (record { lag = lag_82; index = 189 })
    ∷ refused 4 (pos 2)
    ∷ values (record { lag = lag_85; index = 27 })
    ∷ values (record { lag = lag_82; index = 189 })
    ∷ []

-- the searches answer these indexes
unfoldable pub then_sent : List Event
then_sent =
    at_place (record { subframe = 1; sent = record { lag = lag_82; index = 189 }; arrived = 189; reading = values lag_82 })
    ∷ at_place (record { subframe = 2; sent = record { lag = lag_85; index = 27 }; arrived = 27; reading = values lag_85 })
    ∷ made_fresh
    ∷ []

unfoldable pub PreviewsExample : Type 0
PreviewsExample =
    (answers_shown (run_calls (fresh_state Handset) tried) ≡ shown_first)
    × (map (λ (s : Step). s.event) (steps_seen (run_calls (fresh_state Handset) tried)) ≡ then_sent)
    × (answers_shown (run_calls (fresh_state Player) (preview (silent_at 121 1) ∷ [])) ≡ refused 3 (pos 121) ∷ [])
