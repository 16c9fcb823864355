-- A frame on a state in numbers, from 01, 'What is turned down, in checking order', and 02's request 02: which frames it refuses, by the numbers.
use Rattle.std.specs.Prelude.{◌≡◌, false, List, [], ◌∷◌, ◌++◌, ◌⊎◌, replicate, ℕ, eqb, ℤ, pos}
use Rattle.refusal.specs.Refused.{Told, values, refused}
use Rattle.refusal.specs.Checks.{Check, Outcome, unless_refused, length_is, known_subframe}
use Rattle.pitch_state.specs.declared.PitchState.{PitchState}
use Rattle.pitch_state.specs.States.{searcher_numbers, searcher_of}
use Rattle.pitch_state.specs.Calls.{keeping}
use Rattle.frame.specs.declared.FramePitches.{FramePitches}
use Rattle.frame.specs.declared.FrameState.{FrameState}
use Rattle.frame.specs.Frames.{Lists, Subframes, frame_lengths, frame_of}
use Rattle.frame.specs.Statement.{silent_sets}

-- a frame's state as it crosses: the searcher's numbers, and the detector's old words
pub record FrameNumbers : Type 0 where
  pub searcher : PitchState
  pub history : List ℤ

abbrev pub frame_numbers : FrameState → FrameNumbers
frame_numbers σ = record { searcher = searcher_numbers σ.searcher; history = σ.detector.history_q0 }

-- an answer with the searcher after it, or a refusal and the one that was given; and the history
abbrev pub told_numbers : Told (FramePitches × PitchState) → PitchState → List ℤ → Outcome FramePitches FrameNumbers
told_numbers (values (p, after)) given history = record { answer = values p; after = record { searcher = after; history = history } }
told_numbers (refused n d) given history = record { answer = refused n d; after = record { searcher = given; history = history } }

-- 01, number 1, 'a list to be written last', and number 2 of the expected subframe
abbrev pub frame_call_checks : PitchState → List ℤ → Subframes Lists → List ℤ → List Check
frame_call_checks s samples x history = frame_lengths samples x ++ (length_is 143 history ∷ known_subframe s.next ∷ [])

-- `FrameState::search` behind these checks
unfoldable pub frame_in_numbers : PitchState → List ℤ → Subframes Lists → List ℤ → Outcome FramePitches FrameNumbers
frame_in_numbers s samples x history =
    let given : FrameNumbers = record { searcher = s; history = history } in
    unless_refused (frame_call_checks s samples x history) given
    (keeping given frame_numbers (frame_of (record { detector = record { history_q0 = history }; searcher = searcher_of s }) samples x))

abbrev pub OneTwoOrFour : ℕ → Type 0
OneTwoOrFour n = (n ≡ 1) ⊎ (n ≡ 2) ⊎ (n ≡ 4)

-- a handset's frame by its numbers is refused by 1, 2 or 4 alone
unfoldable pub HandsetFrames : Type 0
HandsetFrames =
    (s : PitchState) (samples : List ℤ) (x : Subframes Lists) (history : List ℤ) (n : ℕ) (d : ℤ) →
    eqb s.upper 120 ≡ false → (frame_in_numbers s samples x history).answer ≡ refused n d → OneTwoOrFour n

-- ---- by computing, on silence: 142 words of history are named before the subframe that is expected, and 7 is refused by 2 before 4
abbrev pub silent_frame : ℕ → ℕ → Told FramePitches
silent_frame next words =
    let s : PitchState = record { samples = 40; fraction = pos 0; next = next; upper = 143; start = 0 } in
    (frame_in_numbers s (replicate 160 (pos 0)) (silent_sets 40) (replicate words (pos 0))).answer

unfoldable pub FramesInNumbers : Type 0
FramesInNumbers = (silent_frame 7 142 ≡ refused 1 (pos 142)) × (silent_frame 7 143 ≡ refused 2 (pos 7)) × (silent_frame 3 143 ≡ refused 4 (pos 3))
