-- One name for an `unfolding` line that computes the definitions of this crate.
use Rattle.fixed.specs.Opens.{fixed_opens}
use Rattle.gain_sums.specs.Sums.{sum, overflow, flagged_sum, clips, counted_sum}

unfoldable pub gain_sums_opens : Unit {0}
unfolding fixed_opens sum overflow flagged_sum clips counted_sum
gain_sums_opens = tt
