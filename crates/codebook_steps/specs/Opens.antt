-- One name for an `unfolding` line that computes the definitions of this crate.
use Rattle.fixed.specs.Opens.{fixed_opens}
use Rattle.codebook_steps.specs.Steps.{step_to, better, none_in, kept}

unfoldable pub steps_opens : Unit {0}
unfolding fixed_opens step_to better none_in kept
steps_opens = tt
