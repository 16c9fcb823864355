-- TS 26.073 Pitch_fr as 01 has it: the window of a search, and the choice in it.
use Rattle.std.specs.Prelude.{cond, List, ℕ, ◌+◌, ◌-◌, ℤ}
use Rattle.pitch.specs.declared.Subframe.{Subframe}
use Rattle.pitch.specs.declared.Subframe.TheVariants.{One, Two, Three, Four}
use Rattle.pitch.specs.declared.PitchLag.{PitchLag}
use Rattle.pitch.specs.Kinds.{absolute}
use Rattle.pitch.specs.Windows.{absolute_start, relative_start}
use Rattle.pitch_correlation.specs.Correlations.{Norm_Corr}
use Rattle.pitch_choice.specs.Choices.{chosen}

-- 'the centre is the first open-loop lag for subframe 1, the second for 3', the previous whole lag for 2 and 4
abbrev pub centre_of : Subframe → ℕ → ℕ → ℕ → ℕ
centre_of One previous first second = first
centre_of Two previous first second = previous
centre_of Three previous first second = second
centre_of Four previous first second = previous

-- the start of the window round a centre, under an upper lag
abbrev pub start_round : ℕ → Subframe → ℕ → ℕ
start_round upper s centre = cond (absolute s) (absolute_start upper centre) (relative_start upper centre)

-- and so of a search, round its centre
abbrev pub start_of : ℕ → Subframe → ℕ → ℕ → ℕ → ℕ
start_of upper s previous first second = start_round upper s (centre_of s previous first second)

-- how many lags a window has, less one
abbrev pub span_of : Subframe → ℕ
span_of s = cond (absolute s) 6 9

-- the lag and the fraction chosen in a window; the correlations go 4 lags further at each side, and are those of Norm_Corr for lists of 194, 40 and 40 words
unfoldable pub pitch_in : Subframe → ℕ → List ℤ → List ℤ → List ℤ → PitchLag
pitch_in s start exc target hs =
    chosen (absolute s) (Norm_Corr exc target hs (start - 4) (start + span_of s + 4 + 1)) start (span_of s)
