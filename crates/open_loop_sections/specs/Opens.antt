-- One name for an `unfolding` line that computes the definitions of this crate.
use Rattle.energy.specs.Opens.{energy_opens}
use Rattle.open_loop_correlation.specs.Opens.{lag_correlation_opens}
use Rattle.open_loop_sections.specs.Sections.{scaled_all, delayed_energy, long_at, value_at, Lag_max, favoured, of_sections, lag_of}

unfoldable pub section_opens : Unit {0}
unfolding energy_opens lag_correlation_opens scaled_all delayed_energy long_at value_at Lag_max favoured of_sections lag_of
section_opens = tt
