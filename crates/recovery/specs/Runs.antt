-- 01, 'Closed loop': demand 3's list of entries, with the frames of 02's request 02, and its run. Searcher, reader and frame are those of the contracts, by their own
-- definitions.
use Rattle.std.specs.Prelude.{List, [], ◌∷◌, ◌++◌, ℕ, ℤ}
use Rattle.refusal.specs.Refused.{Told, values, refused}
use Rattle.refusal.specs.Checks.{Outcome}
use Rattle.pitch.specs.declared.PitchLag.{PitchLag}
use Rattle.pitch.specs.declared.UpperLag.{UpperLag}
use Rattle.lag_reader.specs.declared.Reader.{Reader}
use Rattle.lag_reader.specs.Readers.{fresh_reader, reset_reader, read}
use Rattle.pitch_search.specs.declared.Search.{Search}
use Rattle.pitch_search.specs.declared.SearchedPitch.{SearchedPitch}
use Rattle.pitch_search.specs.Searches.{fresh_search, reset_search}
use Rattle.pitch_search.specs.Inputs.{Input, searched}
use Rattle.open_loop.specs.declared.Detector.{Detector}
use Rattle.frame.specs.declared.FramePitches.{FramePitches}
use Rattle.frame.specs.declared.FrameState.{FrameState}
use Rattle.frame.specs.Frames.{Lists, Subframes, four_searches, frame_of}

-- what a whole frame is handed: any detector, so nothing is assumed of the words before it
pub record FrameInput : Type 0 where
  pub detector : Detector
  pub samples : List ℤ
  pub sets : Subframes Lists

-- 01: 'Demand 3's list has three kinds of entry'; 02's request 02 brings the fourth
pub data Entry : Type 0 where
  -- a pitch search, and the index that arrives at the reader if it is accepted
  search : Input → ℕ → Entry
  -- a reset, which makes searcher and reader fresh
  reset : Entry
  -- a reading of a subframe number and an index
  stray : ℕ → ℕ → Entry
  -- a whole frame, and the indexes that arrive at the reader if it is accepted
  frame : FrameInput → Subframes ℕ → Entry

-- searcher and reader, as the last entry left them
pub record State : Type 0 where
  pub searcher : Search
  pub reader : Reader

-- at the start, and after a reset: 02, 'a reader made with the same upper lag as its searcher'
abbrev pub fresh_state : UpperLag → State
fresh_state upper = record { searcher = fresh_search upper; reader = fresh_reader upper }

-- 01: 'place', a search that numbers 1 to 4 let through: what it answered, what arrived, and what the reader, called once, answered
pub record Place : Type 0 where
  pub subframe : ℕ
  pub sent : SearchedPitch
  pub arrived : ℕ
  pub reading : Told PitchLag

-- what happens at an entry, or at a subframe of a frame
pub data Event : Type 0 where
  at_place : Place → Event
  search_refused : ℕ → ℤ → Event
  frame_refused : ℕ → ℤ → Event
  made_fresh : Event
  strayed : ℕ → ℕ → Told PitchLag → Event

-- an event, with searcher and reader before it and after it
pub record Step : Type 0 where
  pub before : State
  pub event : Event
  pub after : State

-- after a search of subframe n with the index i to arrive: 'there the reader is called once', and 'A refused search hands it nothing'
abbrev pub answered : State → ℕ → ℕ → Search → Told SearchedPitch → Step
answered σ n i s (values p) =
    record {
      before = σ;
      event = at_place (record { subframe = n; sent = p; arrived = i; reading = (read σ.reader n i).answer });
      after = record { searcher = s; reader = (read σ.reader n i).after };
    }
answered σ n i s (refused m d) = record { before = σ; event = search_refused m d; after = record { searcher = s; reader = σ.reader } }

-- the steps of a search, a reset and a stray reading
abbrev pub searched_step : State → Input → ℕ → Step
searched_step σ x i = answered σ x.subframe i (searched σ.searcher x).after (searched σ.searcher x).answer

abbrev pub reset_step : State → Step
reset_step σ =
    record {
      before = σ;
      event = made_fresh;
      after = record { searcher = reset_search σ.searcher; reader = reset_reader σ.reader };
    }

abbrev pub stray_step : State → ℕ → ℕ → Step
stray_step σ n i =
    record {
      before = σ;
      event = strayed n i (read σ.reader n i).answer;
      after = record { searcher = σ.searcher; reader = (read σ.reader n i).after };
    }

-- the frame of an input
abbrev pub frame_state : Search → FrameInput → FrameState
frame_state s x = record { detector = x.detector; searcher = s }

abbrev pub frame_answered : Search → FrameInput → Outcome FramePitches FrameState
frame_answered s x = frame_of (frame_state s x) x.samples x.sets

-- 02: 'a refused frame hands it nothing'
abbrev pub frame_refused_step : State → Search → ℕ → ℤ → Step
frame_refused_step σ s n d = record { before = σ; event = frame_refused n d; after = record { searcher = s; reader = σ.reader } }

-- a frame by its searcher and its answer: if accepted, a place for each of the four pitch answers. The searchers between them are those that its searches leave
abbrev pub framed : State → FrameInput → Subframes ℕ → Search → Told FramePitches → List Step
framed σ x i s (values p) =
    let o = four_searches σ.searcher x.sets p.first.0 p.second.0 in
    let a = answered σ 1 i.one o.one.after (values p.one) in
    let b = answered a.after 2 i.two o.two.after (values p.two) in
    let c = answered b.after 3 i.three o.three.after (values p.three) in
    a ∷ b ∷ c ∷ answered c.after 4 i.four s (values p.four) ∷ []
framed σ x i s (refused n d) = frame_refused_step σ s n d ∷ []

-- the steps of one entry
abbrev pub steps : State → Entry → List Step
steps σ (search x i) = searched_step σ x i ∷ []
steps σ reset = reset_step σ ∷ []
steps σ (stray n i) = stray_step σ n i ∷ []
steps σ (frame x i) = framed σ x i (frame_answered σ.searcher x).after.searcher (frame_answered σ.searcher x).answer

-- searcher and reader after the last of some steps
abbrev pub after_all : State → List Step → State
after_all σ [] = σ
after_all σ (s ∷ ss) = after_all s.after ss

-- the run of a list: each entry gets searcher and reader as the last one left them
unfoldable pub run : State → List Entry → List Step
run σ [] = []
run σ (e ∷ es) = steps σ e ++ run (after_all σ (steps σ e)) es
