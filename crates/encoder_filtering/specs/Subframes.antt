-- The two entries of target filtering, behind 01's checks.
use Rattle.std.specs.Prelude.{List, [], ◌∷◌, ℤ}
use Rattle.refusal.specs.Refused.{values}
use Rattle.refusal.specs.Checks.{Check, Outcome, unless_refused, length_is}
use Rattle.filters.specs.Filters.{Residu}
use Rattle.target_filtering.specs.declared.PreparedSubframe.{PreparedSubframe}
use Rattle.target_filtering.specs.Subframes.{subframePreProc}

-- `residual`: the answer, and the lent list after it
unfoldable pub residual : List ℤ → List ℤ → List ℤ → Outcome (Unit {0}) (List ℤ)
residual cs xs out =
    unless_refused (length_is 11 cs ∷ length_is 50 xs ∷ length_is 40 out ∷ []) out (record { answer = values tt; after = Residu cs xs })

-- 01, number 1, 'in the order of the Rust's arguments, a list to be written last': the lists that are read
abbrev pub read_checks : List ℤ → List ℤ → List ℤ → List ℤ → List ℤ → List Check → List Check
read_checks speech cs quantized error_past weighting_past rest =
    length_is 50 speech ∷ length_is 11 cs ∷ length_is 11 quantized ∷ length_is 10 error_past ∷ length_is 10 weighting_past ∷ rest

-- and those that are written
abbrev pub written_checks : PreparedSubframe → List Check
written_checks out =
    length_is 40 out.residual_q0 ∷ length_is 40 out.impulse_q12 ∷ length_is 40 out.target_q0 ∷ length_is 40 out.error_q0 ∷ []

-- the four lists that are lent
abbrev pub lists : List ℤ → List ℤ → List ℤ → List ℤ → PreparedSubframe
lists residual impulse target error = record { residual_q0 = residual; impulse_q12 = impulse; target_q0 = target; error_q0 = error }

-- `prepare`: the answer, and these four after it
unfoldable pub prepare : List ℤ → List ℤ → List ℤ → List ℤ → List ℤ → PreparedSubframe → Outcome (Unit {0}) PreparedSubframe
prepare speech cs quantized error_past weighting_past out =
    unless_refused (read_checks speech cs quantized error_past weighting_past (written_checks out)) out
    (record { answer = values tt; after = subframePreProc speech cs quantized error_past weighting_past })
