-- One name for an `unfolding` line that computes the definitions of this crate.
use Rattle.gain_pitch.specs.Opens.{pitch_gain_opens}
use Rattle.gain_coefficients.specs.Energies.{cut, calc_filt_energies, exp_max, e_max, levelled, on_one_scale, coefficients, counted_coefficients}

unfoldable pub coefficients_opens : Unit {0}
unfolding pitch_gain_opens cut calc_filt_energies exp_max e_max levelled on_one_scale coefficients counted_coefficients
coefficients_opens = tt
