-- One name for an `unfolding` line that computes what the lag is defined by.
use Rattle.fixed.specs.Opens.{fixed_opens}
use Rattle.open_loop_correlation.specs.Correlations.{products, correlation}

unfoldable pub lag_correlation_opens : Unit {0}
unfolding fixed_opens products correlation
lag_correlation_opens = tt
