-- One name for an `unfolding` line that computes the definitions of this crate.
use Rattle.fixed.specs.Opens.{fixed_opens}
use Rattle.energy.specs.Opens.{energy_opens}
use Rattle.codebook_matrix.specs.Matrices.{energy, gain_of, scaled_by, normalised, products, entry, row, correlations, cor_h}

unfoldable pub matrix_opens : Unit {0}
unfolding fixed_opens energy_opens energy gain_of scaled_by normalised products entry row correlations cor_h
matrix_opens = tt
