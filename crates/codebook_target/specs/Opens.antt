-- One name for an `unfolding` line that computes the definitions of this crate.
use Rattle.fixed.specs.Opens.{fixed_opens}
use Rattle.codebook_target.specs.Targets.{correlated, greatest, total, normalised, cor_h_x}
use Rattle.codebook_target.specs.Starts.{signs_of, magnitudes_of, lesser, least, without, drop_one, dropped, set_sign, starts_in}

unfoldable pub target_opens : Unit {0}
unfolding fixed_opens correlated greatest total normalised cor_h_x signs_of magnitudes_of lesser least without drop_one dropped set_sign starts_in
target_opens = tt
