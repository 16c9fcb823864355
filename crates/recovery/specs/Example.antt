-- A handset's run with damaged indexes, stray readings, a refused search and a reset; and a player's run. All samples are 0.
use Rattle.std.specs.Prelude.{◌≡◌, List, [], ◌∷◌, map, ℕ, pos}
use Rattle.refusal.specs.Refused.{values, refused}
use Rattle.pitch.specs.declared.Fraction.TheVariants.{Zero, PlusThird}
use Rattle.pitch.specs.declared.PitchLag.{PitchLag}
use Rattle.pitch.specs.declared.UpperLag.TheVariants.{Player, Handset}
use Rattle.lag_reader.specs.Readers.{fresh_reader}
use Rattle.pitch_search.specs.Searches.{fresh_search}
use Rattle.pitch_search.specs.Inputs.{Input, silent_at}
use Rattle.recovery.specs.Runs.{State, Entry, search, reset, stray, Event, at_place, search_refused, made_fresh, strayed, Step, fresh_state, run}
use Rattle.recovery.specs.Statement.{none, WithinWidth, Stray, Each}

-- a search of subframe n on them
abbrev pub silent : ℕ → Input
silent n = silent_at 80 n

unfoldable pub example : List Entry
example =
    search (silent 1) 189
    ∷ stray 3 0
    ∷ stray 2 32
    ∷ search (silent 2) 5
    ∷ search (silent 2) 27
    ∷ search (silent 3) 189
    ∷ search (silent 4) 27
    ∷ reset
    ∷ search (silent 1) 0
    ∷ search (silent 2) 27
    ∷ []

-- the lags that the searches answer in subframes 1 and 3, and in 2 and 4
abbrev pub lag_82 : PitchLag
lag_82 = record { samples = 82; fraction = PlusThird }

abbrev pub lag_85 : PitchLag
lag_85 = record { samples = 85; fraction = PlusThird }

-- what happens: the damaged 5 in subframe 2 is read as 78, and subframes 3 and 4 are recovered after it; the damaged 0 in subframe 1 is read as 19, and the
-- intact 27 that directly follows it as 28 and not as 85
unfoldable pub happens : List Event
happens =
    at_place (record { subframe = 1; sent = record { lag = lag_82; index = 189 }; arrived = 189; reading = values lag_82 })
    ∷ strayed 3 0 (refused 4 (pos 2))
    ∷ strayed 2 32 (refused 5 (pos 32))
    ∷ at_place (record { subframe = 2; sent = record { lag = lag_85; index = 27 }; arrived = 5; reading = values (record { samples = 78; fraction = Zero }) })
    ∷ search_refused 4 (pos 3)
    ∷ at_place (record { subframe = 3; sent = record { lag = lag_82; index = 189 }; arrived = 189; reading = values lag_82 })
    ∷ at_place (record { subframe = 4; sent = record { lag = lag_85; index = 27 }; arrived = 27; reading = values lag_85 })
    ∷ made_fresh
    ∷ at_place (record { subframe = 1; sent = record { lag = lag_82; index = 189 }; arrived = 0; reading = values (record { samples = 19; fraction = PlusThird }) })
    ∷ at_place (record { subframe = 2; sent = record { lag = lag_85; index = 27 }; arrived = 27; reading = values (record { samples = 28; fraction = PlusThird }) })
    ∷ []

-- the start of the searcher's window and of the reader's, after each entry: the damaged 5 is read in the searcher's window, and behind the damaged 0 the
-- reader's is another one
unfoldable pub starts : List (ℕ × ℕ)
starts = (77, 0) ∷ (77, 0) ∷ (77, 0) ∷ (77, 77) ∷ (77, 77) ∷ (77, 0) ∷ (77, 77) ∷ (0, 0) ∷ (77, 0) ∷ (77, 20) ∷ []

-- the example happens so, and meets both hypotheses
unfoldable pub Example : Type 0
Example =
    (map (λ (s : Step). s.event) (run (fresh_state Handset) example) ≡ happens)
    × (map (λ (s : Step). (s.after.searcher.start, s.after.reader.start)) (run (fresh_state Handset) example) ≡ starts)
    × Each WithinWidth none (run (fresh_state Handset) example)
    × Each Stray none (run (fresh_state Handset) example)

-- ---- a player at its upper lag: the window of subframe 2 is held to 111, and after the reset it is still a player, so 121 is refused
unfoldable pub at_120 : List Entry
at_120 = search (silent_at 120 1) 232 ∷ search (silent_at 120 2) 27 ∷ reset ∷ search (silent_at 121 1) 233 ∷ []

abbrev pub lag_120 : PitchLag
lag_120 = record { samples = 120; fraction = Zero }

abbrev pub lag_119 : PitchLag
lag_119 = record { samples = 119; fraction = PlusThird }

-- by what is read in subframe 2
abbrev pub players : PitchLag → List Event
players read_as =
    at_place (record { subframe = 1; sent = record { lag = lag_120; index = 232 }; arrived = 232; reading = values lag_120 })
    ∷ at_place (record { subframe = 2; sent = record { lag = lag_119; index = 27 }; arrived = 27; reading = values read_as })
    ∷ made_fresh
    ∷ search_refused 3 (pos 121)
    ∷ []

-- a player's searcher with a handset's reader, whose window of subframe 2 starts at 115
abbrev pub two_upper_lags : State
two_upper_lags = record { searcher = fresh_search Player; reader = fresh_reader Handset }

-- the player's reader recovers both lags; the handset's reads 123 and +1 third where 119 and +1 was sent, although both indexes are intact
unfoldable pub PlayersExample : Type 0
PlayersExample =
    (map (λ (s : Step). s.event) (run (fresh_state Player) at_120) ≡ players lag_119)
    × (map (λ (s : Step). s.event) (run two_upper_lags at_120) ≡ players (record { samples = 123; fraction = PlusThird }))
    × Each WithinWidth none (run (fresh_state Player) at_120)
    × Each Stray none (run (fresh_state Player) at_120)
