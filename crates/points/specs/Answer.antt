-- A question to one of the stages, and what its definition answers: the numbers in the order in which 01 prints them, or a refusal. A line of 01's listing is asked for through its own definition.
use Rattle.std.specs.Prelude.{List, [], ◌∷◌, map, ℕ, ℤ, pos, replicate}
use Rattle.fixed.specs.Lists.{at}
use Rattle.refusal.specs.Refused.{Told, values, put}
use Rattle.logarithm.specs.Powers.{Pow2}
use Rattle.pitch.specs.declared.PitchLag.{PitchLag}
use Rattle.pitch.specs.declared.UpperLag.TheVariants.{Handset}
use Rattle.pitch.specs.Kinds.{thirds, upper_samples}
use Rattle.pitch.specs.Windows.{relative_start}
use Rattle.pitch.specs.Indexes.{absolute_index, absolute_lag, relative_lag}
use Rattle.open_loop.specs.Detectors.{fresh_detector, Pitch_ol}
use Rattle.pitch_search.specs.declared.Search.{Search}
use Rattle.pitch_search.specs.Searches.{fresh_search, Pitch_fr}
use Rattle.refusal.specs.Checks.{Outcome}
use Rattle.codebook_code.specs.declared.PulseWords.{PulseWords}
use Rattle.codebook_search.specs.Pulses.{Lists, lent, pulses}
use Rattle.gain_pitch.specs.Gains.{pitch_gain}
use Rattle.gain.specs.Rows.{quantize}
use Rattle.selection_answers.specs.Lines.{Line, none, line, open_line, pitch_line, pulse_line, gain_line}

pub data Question : Type 0 where
  -- `pow2`: exponent and fraction
  powerOfTwo : ℕ → ℕ → Question
  -- the index rules: an absolute index read; a relative index read after a previous whole lag; the index of an absolute lag
  absoluteReading : ℕ → Question
  relativeReading : ℕ → ℕ → Question
  absoluteIndex : PitchLag → Question
  -- a half frame pushed into a fresh detector
  openLoop : List ℤ → Question
  -- a pitch search of the lists excitation, target and impulse, with two open-loop lags, after the same searches of the subframes in the list
  pitchAfter : List ℕ → List ℤ → List ℤ → List ℤ → ℕ → ℕ → ℕ → Question
  -- a pulse search of target and impulse, with a lag and a gain: its two words; and words of its innovation, at these places
  pulseWords : List ℤ → List ℤ → ℕ → ℤ → Question
  innovationAt : List ℕ → List ℤ → List ℤ → ℕ → ℤ → Question
  -- the pitch gain of target and adaptive words
  pitchGain : List ℤ → List ℤ → Question
  -- the gain row of target, adaptive words and filtered innovation, with a predicted exponent and fraction and a limit choice
  gainRow : List ℤ → List ℤ → List ℤ → ℤ → ℕ → ℕ → Question

-- the fields that a line prints behind its name
abbrev pub printed : Line → List ℤ
printed none = []
printed (line name fields) = fields

abbrev pub lag_numbers : PitchLag → List ℤ
lag_numbers l = pos l.samples ∷ thirds l.fraction ∷ []

-- the searcher after searches of a list of subframes
abbrev pub searched_after : List ℕ → List ℤ → List ℤ → List ℤ → ℕ → ℕ → Search → Search
searched_after [] exc target hs first second s = s
searched_after (n ∷ ns) exc target hs first second s = searched_after ns exc target hs first second (Pitch_fr s exc target hs first second n).after

-- a pulse search into lists of 40 zeros
abbrev pub pulse_search : List ℤ → List ℤ → ℕ → ℤ → Outcome PulseWords Lists
pulse_search target hs lag gain = pulses target hs lag (record { 0 = gain }) (lent (replicate 40 (pos 0)) (replicate 40 (pos 0)) (replicate 40 (pos 0)))

unfoldable pub answer : Question → Told (List ℤ)
answer (powerOfTwo e f) = put (λ v. v ∷ []) (Pow2 e f)
answer (absoluteReading index) = values (lag_numbers (absolute_lag index))
answer (relativeReading previous index) = values (lag_numbers (relative_lag (relative_start (upper_samples Handset) previous) index))
answer (absoluteIndex l) = values (pos (absolute_index l) ∷ [])
answer (openLoop samples) = put (λ l. printed (open_line l)) (Pitch_ol fresh_detector samples).answer
answer (pitchAfter ns exc target hs first second n) =
    put (λ p. printed (pitch_line p)) (Pitch_fr (searched_after ns exc target hs first second (fresh_search Handset)) exc target hs first second n).answer
answer (pulseWords target hs lag gain) = put (λ w. printed (pulse_line w)) (pulse_search target hs lag gain).answer
answer (innovationAt places target hs lag gain) = put (λ w. map (at (pulse_search target hs lag gain).after.innovation) places) (pulse_search target hs lag gain).answer
answer (pitchGain target adaptive) = put (λ g. g.gain_q14 ∷ []) (pitch_gain target adaptive)
answer (gainRow target adaptive filtered exponent fraction limit) =
    put (λ q. printed (gain_line q)) (quantize target adaptive filtered exponent fraction limit)
