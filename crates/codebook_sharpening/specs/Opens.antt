-- One name for an `unfolding` line that computes the definitions of this crate.
use Rattle.fixed.specs.Opens.{fixed_opens}
use Rattle.codebook_sharpening.specs.Sharpenings.{doubled, raised, sharpened_to, sharpened}

unfoldable pub sharpening_opens : Unit {0}
unfolding fixed_opens doubled raised sharpened_to sharpened
sharpening_opens = tt
