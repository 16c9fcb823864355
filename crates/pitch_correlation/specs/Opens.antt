-- One name for an `unfolding` line that computes the definitions of this crate.
use Rattle.energy.specs.Opens.{energy_opens}
use Rattle.pitch_convolution.specs.Opens.{convolution_opens}
use Rattle.pitch_correlation.specs.Correlations.{loud, scaled_all, update_at, update, filtered, normalized, correlation_at, correlations_from, correlations, Norm_Corr}

unfoldable pub correlation_opens : Unit {0}
unfolding energy_opens convolution_opens loud scaled_all update_at update filtered normalized correlation_at correlations_from correlations Norm_Corr
correlation_opens = tt
