-- The answers of the resonance watch as the structs that cross to Rust and C.
use Rattle.std.specs.Prelude.{Bool, false, ℕ}
use Rattle.refusal.specs.Refused.{Told, values, refused}
use Rattle.refusal.specs.Checks.{Outcome}
use Rattle.gain_limit.specs.declared.GainLimit.{GainLimit}
use Rattle.gain_limit.specs.Limits.{limit_number}
use Rattle.encoder_stability.specs.declared.WatchedGain.{WatchedGain}
use Rattle.mr74.specs.Details.{sign_magnitude}
use Rattle.mr74.specs.Gains.{gain_answer}
use Rattle.mr74.specs.declared.stability.SpectrumAnswer.{SpectrumAnswer}
use Rattle.mr74.specs.declared.stability.LimitAnswer.{LimitAnswer}
use Rattle.mr74.specs.declared.stability.WatchedGainAnswer.{WatchedGainAnswer}

-- number 0, whether the spectrum is resonant, and the count after it; or a refusal's number and detail, no, and the count as it was
abbrev pub told_spectrum : Told Bool → ℕ → SpectrumAnswer
told_spectrum (values r) count = record { number = 0; magnitude = 0; resonant = r; count = count }
told_spectrum (refused n d) count = record { number = n; magnitude = (sign_magnitude d).magnitude; resonant = false; count = count }

abbrev pub spectrum_answer : Outcome Bool ℕ → SpectrumAnswer
spectrum_answer o = told_spectrum o.answer o.after

-- number 0 and the limit, or a refusal's number and detail and 0
abbrev pub limit_answer : Told GainLimit → LimitAnswer
limit_answer (values l) = record { number = 0; magnitude = 0; limit = limit_number l }
limit_answer (refused n d) = record { number = n; magnitude = (sign_magnitude d).magnitude; limit = 0 }

-- the gain stage's answer, and the limit that its row lies within; 0 with a refusal
abbrev pub watched_answer : Told WatchedGain → WatchedGainAnswer
watched_answer (values a) = record { gain = gain_answer (values a.gain); limit = limit_number a.limit }
watched_answer (refused n d) = record { gain = gain_answer (refused n d); limit = 0 }
