-- One name for an `unfolding` line that computes the definitions of this crate.
use Rattle.gain_table.specs.Opens.{table_opens}
use Rattle.gain_choice.specs.Rows.{products, term, distance, row_distance, distances, nearer, nearest, nearest_row}

unfoldable pub choice_opens : Unit {0}
unfolding table_opens products term distance row_distance distances nearer nearest nearest_row
choice_opens = tt
