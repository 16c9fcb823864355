-- A whole frame's answer as the struct that crosses to Rust and C.
use Rattle.std.specs.Prelude.{[], ◌∷◌, replicate, pos}
use Rattle.refusal.specs.Refused.{Told, values, refused}
use Rattle.refusal.specs.Checks.{Outcome}
use Rattle.pitch.specs.Kinds.{thirds}
use Rattle.pitch_search.specs.declared.SearchedPitch.{SearchedPitch}
use Rattle.pitch_state.specs.declared.PitchState.{PitchState}
use Rattle.frame.specs.declared.FramePitches.{FramePitches}
use Rattle.frame_state.specs.Calls.{FrameNumbers}
use Rattle.mr74.specs.Details.{sign_magnitude}
use Rattle.mr74.specs.declared.frames.FramePitch.{FramePitch}
use Rattle.mr74.specs.declared.frames.FrameAnswer.{FrameAnswer}

abbrev pub pitch_numbers : SearchedPitch → FramePitch
pitch_numbers p = record { index = p.index; samples = p.lag.samples; fraction = thirds p.lag.fraction }

abbrev pub no_pitch : FramePitch
no_pitch = record { index = 0; samples = 0; fraction = pos 0 }

-- number 0, both lags, four pitch answers and the searcher after them, or a refusal's number and detail and zeros
abbrev pub told_frame : Told FramePitches → PitchState → FrameAnswer
told_frame (values p) after =
    record {
      number = 0;
      magnitude = 0;
      first_lag = p.first.0;
      second_lag = p.second.0;
      pitches = pitch_numbers p.one ∷ pitch_numbers p.two ∷ pitch_numbers p.three ∷ pitch_numbers p.four ∷ [];
      searcher = after;
    }
told_frame (refused n d) after =
    record {
      number = n;
      magnitude = (sign_magnitude d).magnitude;
      first_lag = 0;
      second_lag = 0;
      pitches = replicate 4 no_pitch;
      searcher = after;
    }

abbrev pub frame_answer : Outcome FramePitches FrameNumbers → FrameAnswer
frame_answer o = told_frame o.answer o.after.searcher
