use mir.Facts.{to_z-of_z}
use Rattle.fixed.specs.Operators.{extract_h}
use Rattle.fixed.proofs.Bounds.{shift_fits, high_fits}
use Rattle.fixed.proofs.high.Goals as goal

pub returns : goal.returns
unfolding extract_h
returns c = let f = c.ranges.v in let h = high_fits f in simp (to_z-of_z, shift_fits)
