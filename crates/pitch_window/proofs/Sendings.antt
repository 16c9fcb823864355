-- The window of a search, the choice in it; what it sends is read back, whatever the correlations are: for every upper lag from 40 to 143.
use mathlib.Core.Path.{◌≡◌, ap}
use mathlib.Core.Bool.{true, false, cond}
use mathlib.Core.List.{List}
use Prim.Native.Nat.{ℕ, ◌+◌, ◌-◌, ◌≤◌}
use native.Mathlib.Omega.{arith}
use lib.IntN.{ℤ}
use lib.ListN.{length}
use Rattle.pitch.specs.declared.Subframe.{Subframe}
use Rattle.pitch.specs.declared.Subframe.TheVariants.{One, Two, Three, Four}
use Rattle.pitch.specs.declared.PitchLag.{PitchLag}
use Rattle.pitch.specs.Kinds.{absolute}
use Rattle.pitch.specs.Windows.{absolute_start, relative_start}
use Rattle.pitch.specs.Indexes.{index_of, lag_of}
use Rattle.pitch.specs.Statement.{AbsoluteBack, RelativeBack}
use Rattle.pitch.proofs.Indexings.{from_zero_le, window_low, window_high, absolute_round, relative_round}
use Rattle.pitch_correlation.specs.Correlations.{correlations, Norm_Corr}
use Rattle.pitch_correlation.proofs.Filterings.{norm_corr}
use Rattle.pitch_choice.specs.Choices.{chosen}
use Rattle.pitch_choice.proofs.Choosings.{chosen_low, chosen_high, absolute_choice, relative_choice}
use Rattle.pitch_window.specs.Windows.{start_round, start_of, span_of, pitch_in}

span_le : (s : Subframe) → span_of s ≤ 9
span_le One = omega arith
span_le Two = omega arith
span_le Three = omega arith
span_le Four = omega arith

module _ (upper : ℕ) (h : 40 ≤ upper) (g : upper ≤ 143) where
  module _ (centre : ℕ) where
    pub start_low : (s : Subframe) → 20 ≤ start_round upper s centre
    start_low One = window_low 6 3 upper centre
    start_low Two = window_low 9 5 upper centre
    start_low Three = window_low 6 3 upper centre
    start_low Four = window_low 9 5 upper centre

    pub start_high : (s : Subframe) → start_round upper s centre + span_of s ≤ upper
    start_high One = window_high 6 3 upper centre (omega arith)
    start_high Two = window_high 9 5 upper centre (omega arith)
    start_high Three = window_high 6 3 upper centre (omega arith)
    start_high Four = window_high 9 5 upper centre (omega arith)

    absolute_sent : (cs : List ℤ) → AbsoluteBack (chosen true cs (absolute_start upper centre) 6)
    absolute_sent cs =
        let start = absolute_start upper centre in
        absolute_round upper h g centre (chosen true cs start 6) (absolute_choice cs start (window_low 6 3 upper centre))

    relative_sent : (cs : List ℤ) → RelativeBack (relative_start upper centre) (chosen false cs (relative_start upper centre) 9)
    relative_sent cs =
        let start = relative_start upper centre in
        relative_round upper h g centre (chosen false cs start 9) (relative_choice cs start (window_low 9 5 upper centre))

    module _ (exc target hs : List ℤ) where
      -- the lag that a search in subframe s chooses
      abbrev lag_in : Subframe → PitchLag
      lag_in s = pitch_in s (start_round upper s centre) exc target hs

      -- for lists of 194, 40 and 40 words, and so behind a search's checks, it is the choice among Norm_Corr's correlations
      pub among_correlations : length exc ≡ 194 → length target ≡ 40 → length hs ≡ 40 → (s : Subframe) →
          let start = start_round upper s centre in
          lag_in s ≡ chosen (absolute s) (correlations exc target hs (start - 4) (start + span_of s + 4 + 1)) start (span_of s)
      unfolding pitch_in
      among_correlations e t i s =
          let start = start_round upper s centre in
          ap (λ (cs : List ℤ). chosen (absolute s) cs start (span_of s))
          (norm_corr exc target hs (start - 4) (start + span_of s + 4 + 1) e t i (omega arith) (omega (arith, start_high s)))

      pub sent_fits : (s : Subframe) → index_of s (start_round upper s centre) (lag_in s) ≤ cond (absolute s) 255 31
      unfolding pitch_in
      sent_fits One = (absolute_sent _).1
      sent_fits Two = (relative_sent _).1
      sent_fits Three = (absolute_sent _).1
      sent_fits Four = (relative_sent _).1

      -- a step may settle a lag beside the window: 02, 'the whole lag lies between start − 1 and start + 10'
      pub near_start : (s : Subframe) →
          let start = start_round upper s centre in
          (start ≤ (lag_in s).samples + 1) × ((lag_in s).samples ≤ start + 10)
      unfolding pitch_in
      near_start s =
          let start = start_round upper s centre in
          let cs = Norm_Corr exc target hs (start - 4) (start + span_of s + 4 + 1) in
          let f = from_zero_le (lag_in s).fraction in
          let low = chosen_low (absolute s) cs start (span_of s) (start_low s) in
          let high = chosen_high (absolute s) cs start (span_of s) (start_low s) in
          let span = span_le s in
          (omega arith, omega arith)

  pub sent_back : (previous first second : ℕ) (exc target hs : List ℤ) (s : Subframe) →
      let start = start_of upper s previous first second in
      lag_of upper s previous (index_of s start (pitch_in s start exc target hs)) ≡ pitch_in s start exc target hs
  unfolding pitch_in
  sent_back previous first second exc target hs One = (absolute_sent first _).0
  sent_back previous first second exc target hs Two = (relative_sent previous _).0
  sent_back previous first second exc target hs Three = (absolute_sent second _).0
  sent_back previous first second exc target hs Four = (relative_sent previous _).0
