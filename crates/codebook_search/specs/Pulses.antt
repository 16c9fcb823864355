-- The entry of the pulse search behind 01's checks.
use Rattle.std.specs.Prelude.{List, [], ◌∷◌, ℕ, ℤ}
use Rattle.refusal.specs.Refused.{values}
use Rattle.refusal.specs.Checks.{Outcome, unless_refused, length_is, pulse_lag}
use Rattle.codebook_sharpening.specs.declared.SharpeningGain.{SharpeningGain}
use Rattle.codebook_code.specs.declared.PulseWords.{PulseWords}
use Rattle.codebook_code.specs.declared.SearchResult.{SearchResult}
use Rattle.codebook_code.specs.Codes.{code_4i40_17bits}

-- the three lists that are lent
pub record Lists : Type 0 where
  pub innovation : List ℤ
  pub filtered : List ℤ
  pub impulse : List ℤ

abbrev pub lent : List ℤ → List ℤ → List ℤ → Lists
lent innovation filtered impulse = record { innovation = innovation; filtered = filtered; impulse = impulse }

-- what an accepted search answers, and the lists after it
unfoldable pub accepted : SearchResult → Outcome PulseWords Lists
accepted r = record { answer = values r.words; after = lent r.innovation_q13 r.filtered_q12 r.sharpened_impulse_q12 }

-- `search`: 01, number 1, 'in the order of the Rust's arguments, a list to be written last', then number 6
unfoldable pub pulses : List ℤ → List ℤ → ℕ → SharpeningGain → Lists → Outcome PulseWords Lists
pulses xs hs lag gain out =
    unless_refused
    (length_is 40 xs ∷ length_is 40 hs ∷ length_is 40 out.innovation ∷ length_is 40 out.filtered ∷ length_is 40 out.impulse ∷ pulse_lag lag ∷ [])
    out (accepted (code_4i40_17bits xs hs lag gain))
