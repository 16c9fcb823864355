-- One name for an `unfolding` line that computes the definitions of this crate.
use Rattle.fixed.specs.Opens.{fixed_opens}
use Rattle.gain_table.specs.Rows.{table, row, column}

unfoldable pub table_opens : Unit {0}
unfolding fixed_opens table row column
table_opens = tt
