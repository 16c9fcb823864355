-- 01, 'Feed and program': what a record answers, as the program prints it.
use Rattle.std.specs.Prelude.{Option, Some, None, Result, List, [], ◌∷◌, ℕ, ◌+◌, ◌-◌, ◌*◌, ◌/◌, ℤ, pos}
use Rattle.refusal.specs.Refused.{Told, put, told}
use Rattle.refusal.specs.declared.Refusal.{Refusal}
use Rattle.pitch.specs.declared.PitchLag.{PitchLag}
use Rattle.pitch.specs.Kinds.{thirds, from_zero}
use Rattle.pitch_search.specs.declared.SearchedPitch.{SearchedPitch}
use Rattle.codebook_code.specs.declared.PulseWords.{PulseWords}
use Rattle.gain.specs.declared.QuantizedGain.{QuantizedGain}
use Rattle.selection_answers.specs.declared.Answer.{Answer}
use Rattle.selection_answers.specs.declared.Answer.TheVariants.{Reset, Open, Pitch, Pulses, Gain, Filter, Lag}

-- 'per record its number, a name and fields': the kind stands for the name. Where the feed ends there is no record and no line
pub data Line : Type 0 where
  none : Line
  line : ℕ → List ℤ → Line

-- 02, request 01: 'floor(24000 / (3 × lag + fraction))'; `from_zero` is the fraction plus 1. Lag 0 with a fraction of 0 or −1 gives 0: no stage answers it
abbrev pub hertz : PitchLag → ℕ
hertz l = 24000 / (3 * l.samples + from_zero l.fraction - 1)

-- '`reset` with no field'
abbrev pub reset_line : Line
reset_line = line 0 []

-- '`open` lag'
abbrev pub open_line : ℕ → Line
open_line lag = line 1 (pos lag ∷ [])

-- 'lag, fraction, hertz'
abbrev pub lag_fields : PitchLag → ℕ → List ℤ
lag_fields l h = pos l.samples ∷ thirds l.fraction ∷ pos h ∷ []

-- '`pitch` index, lag, fraction, hertz'
abbrev pub pitch_line : SearchedPitch → Line
pitch_line p = line 2 (pos p.index ∷ lag_fields p.lag (hertz p.lag))

-- '`pulses` positions, signs'
abbrev pub pulse_line : PulseWords → Line
pulse_line w = line 3 (pos w.positions ∷ pos w.signs ∷ [])

-- '`gain` index, pitch, correction'
abbrev pub gain_line : QuantizedGain → Line
gain_line q = line 4 (pos q.index ∷ q.row.pitch_q14 ∷ q.row.correction_q12 ∷ [])

-- '`filter` the 160 words of residual, impulse, target, error'
abbrev pub filter_line : List ℤ → Line
filter_line words = line 5 words

-- '`lag` lag, fraction, hertz'
abbrev pub lag_line : PitchLag → Line
lag_line l = line 6 (lag_fields l (hertz l))

-- an answer, with the words that stand beside it
abbrev pub line_of : Answer → List ℤ → Line
line_of Reset words = reset_line
line_of (Open lag) words = open_line lag.0
line_of (Pitch index l h) words = line 2 (pos index ∷ lag_fields l h)
line_of (Pulses w) words = pulse_line w
line_of (Gain q) words = gain_line q
line_of Filter words = filter_line words
line_of (Lag l h) words = line 6 (lag_fields l h)

-- or no answer: the feed ends there, or a body has not its kind's length
abbrev pub line_or_none : Option Answer → List ℤ → Line
line_or_none None words = none
line_or_none (Some a) words = line_of a words

-- or a refusal, as 01 gives them
abbrev pub told_answer : Result (Option Answer) Refusal → List ℤ → Told Line
told_answer r words = put (λ a. line_or_none a words) (told r)
