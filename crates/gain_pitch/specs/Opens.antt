-- One name for an `unfolding` line that computes the definitions of this crate.
use Rattle.gain_sums.specs.Opens.{gain_sums_opens}
use Rattle.gain_pitch.specs.Gains.{normalized, unless_overflow, quotient, gain, coefficients, G_pitch, pitch_gain}

unfoldable pub pitch_gain_opens : Unit {0}
unfolding gain_sums_opens normalized unless_overflow quotient gain coefficients G_pitch pitch_gain
pitch_gain_opens = tt
