-- One name for an `unfolding` line that computes the definitions of this crate.
use Rattle.codebook.specs.Opens.{codebook_opens}
use Rattle.codebook_sharpening.specs.Opens.{sharpening_opens}
use Rattle.codebook_choice.specs.Opens.{choice_opens}
use Rattle.codebook_code.specs.Codes.{positions_of, signs_of, through, through_all, in_order, filtered_at, filtered, build_code, chosen, of_correlation, of_impulse, code_4i40_17bits}

unfoldable pub code_opens : Unit {0}
unfolding codebook_opens sharpening_opens choice_opens positions_of signs_of through through_all in_order filtered_at filtered build_code chosen of_correlation of_impulse code_4i40_17bits
code_opens = tt
