-- The stage in numbers computed.
use mathlib.Core.Path.{refl}
use Rattle.encoder_stability.specs.Opens.{watch_opens}
use Rattle.stability_state.specs.Calls.{gain_in_numbers, GainsInNumbers}

pub gains_in_numbers : GainsInNumbers
unfolding GainsInNumbers gain_in_numbers watch_opens
gains_in_numbers = (refl, refl, refl, refl, refl)
