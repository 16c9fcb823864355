-- One name for an `unfolding` line that computes the definitions of this crate.
use Rattle.gain.specs.Opens.{gain_opens}
use Rattle.encoder_stability.specs.Watch.{close, observed, limit_by, watched}

unfoldable pub watch_opens : Unit {0}
unfolding gain_opens close observed limit_by watched
watch_opens = tt
