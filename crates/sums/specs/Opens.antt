-- One name for an `unfolding` line that computes what stages are defined by.
use Rattle.fixed.specs.Opens.{fixed_opens}
use Rattle.sums.specs.Convolutions.{convolution}

unfoldable pub sums_opens : Unit {0}
unfolding fixed_opens convolution
sums_opens = tt
