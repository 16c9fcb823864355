-- One name for an `unfolding` line that computes the definitions of this crate.
use Rattle.open_loop_sections.specs.Opens.{section_opens}
use Rattle.open_loop.specs.Detectors.{fresh_detector, joined, Pitch_ol}

unfoldable pub open_loop_opens : Unit {0}
unfolding section_opens fresh_detector joined Pitch_ol
open_loop_opens = tt
