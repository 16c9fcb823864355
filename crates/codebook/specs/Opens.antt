-- One name for an `unfolding` line that computes the definitions of this crate.
use Rattle.codebook.specs.Gray.{gray, dgray}
use Rattle.codebook.specs.Words.{in_track}
use Rattle.codebook.specs.Readers.{decode}

unfoldable pub codebook_opens : Unit {0}
unfolding gray dgray in_track decode
codebook_opens = tt
