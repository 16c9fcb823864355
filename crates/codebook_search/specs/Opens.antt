-- One name for an `unfolding` line that computes the definitions of this crate.
use Rattle.codebook_code.specs.Opens.{code_opens}
use Rattle.codebook_search.specs.Pulses.{accepted, pulses}

unfoldable pub pulse_opens : Unit {0}
unfolding code_opens accepted pulses
pulse_opens = tt
