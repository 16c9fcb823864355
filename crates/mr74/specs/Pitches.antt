-- The answers of the closed loop as the struct that crosses to Rust and C.
use Rattle.std.specs.Prelude.{ℕ, ℤ, pos}
use Rattle.refusal.specs.Refused.{Told, values, refused, put}
use Rattle.refusal.specs.Checks.{Outcome}
use Rattle.pitch.specs.declared.PitchLag.{PitchLag}
use Rattle.pitch.specs.Kinds.{thirds}
use Rattle.pitch_search.specs.declared.SearchedPitch.{SearchedPitch}
use Rattle.pitch_state.specs.declared.PitchState.{PitchState}
use Rattle.mr74.specs.Details.{sign_magnitude}
use Rattle.mr74.specs.declared.closed_loop.PitchAnswer.{PitchAnswer}

-- number 0 and the values, then the state after
abbrev pub accepted_pitch : ℕ → PitchLag → PitchState → PitchAnswer
accepted_pitch index l after =
    record {
      number = 0;
      magnitude = 0;
      index = index;
      samples = l.samples;
      fraction = thirds l.fraction;
      previous_samples = after.samples;
      previous_fraction = after.fraction;
      next = after.next;
      upper = after.upper;
      start = after.start;
    }

-- a refusal's number and detail and zeros, then the state after
abbrev pub refused_pitch : ℕ → ℤ → PitchState → PitchAnswer
refused_pitch n d after =
    record {
      number = n;
      magnitude = (sign_magnitude d).magnitude;
      index = 0;
      samples = 0;
      fraction = pos 0;
      previous_samples = after.samples;
      previous_fraction = after.fraction;
      next = after.next;
      upper = after.upper;
      start = after.start;
    }

-- an answer as 01 gives it, and the state after it, as the struct
abbrev pub told_pitch : Told SearchedPitch → PitchState → PitchAnswer
told_pitch (values p) after = accepted_pitch p.index p.lag after
told_pitch (refused n d) after = refused_pitch n d after

-- the search's
unfoldable pub pitch_answer : Outcome SearchedPitch PitchState → PitchAnswer
pitch_answer o = told_pitch o.answer o.after

-- the reader's: a reading has no index of its own, so 0 stands for it
unfoldable pub reading_answer : Outcome PitchLag PitchState → PitchAnswer
reading_answer o = told_pitch (put (λ l. record { lag = l; index = 0 }) o.answer) o.after
