-- The statement on a handset's frames by their numbers, and three of them by computing.
use mathlib.Core.Path.{◌≡◌, refl, sym, ◌∙◌}
use mathlib.Core.Bool.{false}
use mathlib.Core.List.{List}
use mathlib.Core.Logic.{◌⊎◌, inl, inr}
use Prim.Native.Nat.{ℕ}
use lib.Dec.{eqb}
use lib.IntN.{ℤ}
use Rattle.refusal.specs.Refused.{refused}
use Rattle.refusal.specs.Checks.{Check}
use Rattle.pitch_state.specs.declared.PitchState.{PitchState}
use Rattle.pitch_state.specs.States.{searcher_of}
use Rattle.pitch_state.specs.Calls.{keeping}
use Rattle.frame.specs.declared.FrameState.{FrameState}
use Rattle.frame.specs.Frames.{Lists, Subframes, frame_of}
use Rattle.frame.specs.Opens.{frame_opens}
use Rattle.frame.specs.Statement.{OneOrFour}
use Rattle.refusal.proofs.Answers.{Numbered, numbered, told_of}
use Rattle.frame.proofs.Refusals.{refused_by_checks}
use Rattle.frame_state.specs.Calls.{FrameNumbers, frame_numbers, frame_call_checks, frame_in_numbers, OneTwoOrFour, HandsetFrames, FramesInNumbers}

module _ (s : PitchState) (samples : List ℤ) (x : Subframes Lists) (history : List ℤ) (n : ℕ) (d : ℤ) (u : eqb s.upper 120 ≡ false) where
  abbrev state : FrameState
  state = record { detector = record { history_q0 = history }; searcher = searcher_of s }

  abbrev given : FrameNumbers
  given = record { searcher = s; history = history }

  abbrev checks : List Check
  checks = frame_call_checks s samples x history

  of_the_frame : (frame_of state samples x).answer ≡ refused n d → OneTwoOrFour n
  of_the_frame e = go ((refused_by_checks state samples x (rw u)).by_1_or_4 n d e)
    where
      go : OneOrFour n → OneTwoOrFour n
      go (inl a) = inl a
      go (inr a) = inr (inr a)

  one : OneTwoOrFour 1
  one = inl refl

  numbers : Numbered OneTwoOrFour checks
  numbers = (one, (one, (one, (one, (one, (one, (one, (one, (one, (one, (one, (one, (one, (one, (inr (inl refl), tt)))))))))))))))

  refused_in_numbers : (frame_in_numbers s samples x history).answer ≡ refused n d → OneTwoOrFour n
  unfolding frame_in_numbers
  refused_in_numbers e =
      numbered OneTwoOrFour (frame_of state samples x).answer n d checks numbers of_the_frame
      (sym (told_of given (keeping given frame_numbers (frame_of state samples x)) checks) ∙ e)

pub handset_frames : HandsetFrames
unfolding HandsetFrames
handset_frames s samples x history n d u e = refused_in_numbers s samples x history n d u e

pub frames_in_numbers : FramesInNumbers
unfolding FramesInNumbers frame_in_numbers frame_opens
frames_in_numbers = (refl, refl, refl)
