use Rattle.fixed.proofs.Lists.{Filling}
use Rattle.gain_table.specs.Rows.{cell}
use Rattle.gain_table.proofs.column.Given as goal

abbrev pub invariant-loop-i : goal.invariant-loop-i
invariant-loop-i l = Filling (cell l.fn.c) 128 l.i l.numbers

abbrev pub invariant-loop-i-2 : goal.invariant-loop-i-2
invariant-loop-i-2 l = Filling (cell l.fn.c) 128 l.i l.numbers
