-- One name for an `unfolding` line that computes the definitions of this crate.
use Rattle.sums.specs.Opens.{sums_opens}
use Rattle.pitch_convolution.specs.Filters.{convolved_at, Convolve, convolve}

unfoldable pub convolution_opens : Unit {0}
unfolding sums_opens convolved_at Convolve convolve
convolution_opens = tt
