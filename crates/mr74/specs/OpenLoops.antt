-- A detector as its 143 old words, and its answer as the struct that crosses to Rust and C.
use Rattle.std.specs.Prelude.{List, [], ◌∷◌, ℕ, ℤ}
use Rattle.refusal.specs.Refused.{Told, values, refused}
use Rattle.refusal.specs.Checks.{Outcome, unless_refused, length_is}
use Rattle.open_loop.specs.declared.Detector.{Detector}
use Rattle.open_loop.specs.Detectors.{Pitch_ol}
use Rattle.mr74.specs.Details.{sign_magnitude}
use Rattle.mr74.specs.declared.open_loop_lag.OpenLoopAnswer.{OpenLoopAnswer}

-- number 0 and the lag, or a refusal's number and detail and 0
abbrev pub lag_answer : Told ℕ → OpenLoopAnswer
lag_answer (values l) = record { number = 0; magnitude = 0; lag = l }
lag_answer (refused n d) = record { number = n; magnitude = (sign_magnitude d).magnitude; lag = 0 }

-- an answer, and the words that the detector keeps after it
abbrev pub kept_words : Outcome ℕ Detector → Outcome ℕ (List ℤ)
kept_words o = record { answer = o.answer; after = o.after.history_q0 }

-- `push` with the old words lent; 01, number 1, 'a list to be written last'
unfoldable pub open_loop : List ℤ → List ℤ → Outcome ℕ (List ℤ)
open_loop samples history =
    unless_refused (length_is 80 samples ∷ length_is 143 history ∷ []) history (kept_words (Pitch_ol (record { history_q0 = history }) samples))
