-- One name for an `unfolding` line that computes the definitions of this crate.
use Rattle.pitch_correlation.specs.Opens.{correlation_opens}
use Rattle.pitch_choice.specs.Opens.{pitch_choice_opens}
use Rattle.pitch_window.specs.Windows.{pitch_in}

unfoldable pub window_opens : Unit {0}
unfolding correlation_opens pitch_choice_opens pitch_in
window_opens = tt
