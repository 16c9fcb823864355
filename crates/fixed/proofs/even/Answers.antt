use native.Mathlib.Omega.{arith}
use mir.Syntax.{w32}
use mir.Facts.{to_z-of_z}
use Rattle.fixed.specs.Operators.{even_bits}
use Rattle.fixed.proofs.Bounds.{shift_fits}
use Rattle.fixed.proofs.Signs.{even_fits}
use Rattle.fixed.proofs.even.Goals as goal

pub returns : goal.returns
unfolding even_bits
returns c = let f = c.ranges.v in let e = even_fits w32 c.args.v (omega arith) f in simp (to_z-of_z, shift_fits)
