-- 02, request 02: 'What a lag reader recovers from such a frame is what it recovers from four single searches; a refused frame hands it nothing.'
use Rattle.std.specs.Prelude.{◌≡◌, List, [], ◌∷◌, ◌++◌, map, ℕ, ℤ, pos, replicate}
use Rattle.refusal.specs.Refused.{values, refused}
use Rattle.pitch.specs.declared.Fraction.TheVariants.{PlusThird}
use Rattle.pitch.specs.declared.PitchLag.{PitchLag}
use Rattle.pitch.specs.declared.UpperLag.TheVariants.{Handset}
use Rattle.open_loop.specs.Detectors.{fresh_detector, Pitch_ol}
use Rattle.frame.specs.declared.FramePitches.{FramePitches}
use Rattle.frame.specs.Frames.{Lists, Subframes, first_half, second_half}
use Rattle.frame.specs.Statement.{silent_sets}
use Rattle.pitch_search.specs.Inputs.{Input}
use Rattle.recovery.specs.Runs.{State, Entry, search, frame, FrameInput, Event, at_place, frame_refused, Step, frame_answered, fresh_state, run}
use Rattle.recovery.specs.Statement.{none, WithinWidth, Stray, Each}
use Rattle.recovery.specs.Example.{silent, lag_82, lag_85}

-- a set as the input of a single search of subframe n
abbrev pub single : Lists → ℕ → ℕ → ℕ → Input
single x first second n =
    record {
      subframe = n;
      excitation = x.excitation;
      target = x.target;
      impulse = x.impulse;
      first = first;
      second = second;
    }

-- a frame as four single searches, with the lags that the detector gives
abbrev pub as_searches : FrameInput → Subframes ℕ → ℕ → ℕ → List Entry
as_searches x i first second =
    search (single x.sets.one first second 1) i.one
    ∷ search (single x.sets.two first second 2) i.two
    ∷ search (single x.sets.three first second 3) i.three
    ∷ search (single x.sets.four first second 4) i.four
    ∷ []

-- an accepted frame with any entries behind it: its lags are those of two detector calls, and the steps, so places, readings and states, are those of four
-- single searches with these lags in its place
pub record AsSearches (σ : State) (x : FrameInput) (i : Subframes ℕ) (es : List Entry) (p : FramePitches) : Type 0 where
  pub first : (Pitch_ol x.detector (first_half x.samples)).answer ≡ values p.first.0
  pub second : (Pitch_ol (Pitch_ol x.detector (first_half x.samples)).after (second_half x.samples)).answer ≡ values p.second.0
  pub steps_alike : run σ (frame x i ∷ es) ≡ run σ (as_searches x i p.first.0 p.second.0 ++ es)

-- a refused one: a step which changes nothing and in which nothing is read, and then the steps of the entries behind it
abbrev pub handed_nothing : State → ℕ → ℤ → Step
handed_nothing σ n d = record { before = σ; event = frame_refused n d; after = σ }

-- the statement, from every searcher, reader and detector, so for a frame anywhere in a list; on all inputs and whatever arrives
unfoldable pub FramesAsSearches : Type 0
FramesAsSearches =
    (σ : State) (x : FrameInput) (i : Subframes ℕ) (es : List Entry) →
    let answer = (frame_answered σ.searcher x).answer in
    ((p : FramePitches) → answer ≡ values p → AsSearches σ x i es p)
    × ((n : ℕ) (d : ℤ) → answer ≡ refused n d → run σ (frame x i ∷ es) ≡ handed_nothing σ n d ∷ run σ es)

-- ---- by computing, on silence: a refused frame, an accepted one whose third index arrives damaged, and a search of subframe one behind it
abbrev pub silent_frame : ℕ → FrameInput
silent_frame words =
    record {
      detector = fresh_detector;
      samples = replicate words (pos 0);
      sets = silent_sets 40;
    }

unfoldable pub with_frames : List Entry
with_frames =
    frame (silent_frame 161) (record { one = 1; two = 1; three = 1; four = 1 })
    ∷ frame (silent_frame 160) (record { one = 189; two = 27; three = 0; four = 27 })
    ∷ search (silent 1) 189
    ∷ []

-- a place on silence, with what arrives and how it is read
abbrev pub silent_place : ℕ → PitchLag → ℕ → ℕ → PitchLag → Event
silent_place n sent index arrived read_as =
    at_place (record { subframe = n; sent = record { lag = sent; index = index }; arrived = arrived; reading = values read_as })

-- the damaged 0 in subframe three is read as 19, and the intact 27 that directly follows it as 28
unfoldable pub frames_happen : List Event
frames_happen =
    frame_refused 1 (pos 161)
    ∷ silent_place 1 lag_82 189 189 lag_82
    ∷ silent_place 2 lag_85 27 27 lag_85
    ∷ silent_place 3 lag_82 189 0 (record { samples = 19; fraction = PlusThird })
    ∷ silent_place 4 lag_85 27 27 (record { samples = 28; fraction = PlusThird })
    ∷ silent_place 1 lag_82 189 189 lag_82
    ∷ []

-- so it happens, and both hypotheses of demand 3 are met
unfoldable pub FramesExample : Type 0
FramesExample =
    (map (λ (s : Step). s.event) (run (fresh_state Handset) with_frames) ≡ frames_happen)
    × Each WithinWidth none (run (fresh_state Handset) with_frames)
    × Each Stray none (run (fresh_state Handset) with_frames)
