-- One name for an `unfolding` line that computes the definitions of this crate.
use Rattle.fixed.specs.Opens.{fixed_opens}
use Rattle.pitch_choice.specs.Choices.{interpolator, interpolated_to, Interpol_6, step_value, best_lag, best_step, chosen, choose}

unfoldable pub pitch_choice_opens : Unit {0}
unfolding fixed_opens interpolator interpolated_to Interpol_6 step_value best_lag best_step chosen choose
pitch_choice_opens = tt
