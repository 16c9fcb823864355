-- One name for an `unfolding` line that computes the definitions of this crate.
use Rattle.pitch_window.specs.Opens.{window_opens}
use Rattle.pitch_search.specs.Searches.{Pitch_fr}

unfoldable pub search_opens : Unit {0}
unfolding window_opens Pitch_fr
search_opens = tt
