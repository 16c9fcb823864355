use Rattle.std.proofs.Common.{arith}
use Rattle.fixed.proofs.Lists.{filling_all}
use Rattle.gain_table.specs.Rows.{cell, column}
use Rattle.gain_table.proofs.column.Goals as goal

pub returns : goal.returns
unfolding column
returns c = filling_all (cell c.args.c) 128 c.loop-i-2.i c.loop-i-2.numbers (omega arith) c.loop-i-2.invariant
