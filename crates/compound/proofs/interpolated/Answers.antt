use Rattle.std.proofs.Common.{arith}
use Rattle.fixed.specs.Line.{line}
use Rattle.compound.proofs.interpolated.Goals as goal

pub returns : goal.returns
unfolding line
returns c = omega arith
