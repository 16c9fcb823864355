use mathlib.Core.Path.{◌≡◌, ap, ◌∙◌}
use Prim.Native.Nat.{◌<◌, ◌^◌}
use lib.IntN.{pos}
use mir.Syntax.{w32}
use mir.Facts.{to_z_pos}
use Rattle.logarithm.specs.Powers.{power, pow2_table}
use Rattle.logarithm.proofs.Powers.{power_lt}
use Rattle.logarithm.proofs.bounded_pow2.Goals as goal

value : (c : goal.After-rounded_shift) → c.rounded_shift.result ≡ power c.args.exponent c.args.fraction_q15
unfolding power pow2_table
value c = rw (c.rounded_shift.ensures, c.table_line-line.ensures)

small : (c : goal.After-rounded_shift) → c.rounded_shift.result < 2 ^ 31
small c = rw (value c) (power_lt c.args.exponent c.args.fraction_q15 c.requires.1)

pub overflow_cast-result : goal.overflow_cast-result
overflow_cast-result c = record { sfits = small c }

pub returns : goal.returns
returns c = to_z_pos w32 (small c) ∙ ap pos (value c)
