-- One name for an `unfolding` line that computes the definitions of this crate.
use Rattle.logarithm.specs.Opens.{logarithm_opens}
use Rattle.gain_limit.specs.Limits.{limit_choice}
use Rattle.gain_coefficients.specs.Opens.{coefficients_opens}
use Rattle.gain_choice.specs.Opens.{choice_opens}
use Rattle.gain.specs.Rows.{gcode0, weights, Qua_gain, quantize}

unfoldable pub gain_opens : Unit {0}
unfolding logarithm_opens limit_choice coefficients_opens choice_opens gcode0 weights Qua_gain quantize
gain_opens = tt
