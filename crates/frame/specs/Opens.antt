-- One name for an `unfolding` line that computes the definitions of this crate.
use Rattle.pitch_search.specs.Opens.{search_opens}
use Rattle.open_loop.specs.Opens.{open_loop_opens}
use Rattle.frame.specs.Frames.{frame_of}

unfoldable pub frame_opens : Unit {0}
unfolding search_opens open_loop_opens frame_of
frame_opens = tt
