use mir.Syntax.{w32}
use mir.Facts.{to_z-of_z}
use Rattle.energy.specs.Root.{inverses, Inv_sqrt}
use Rattle.fixed.proofs.Bounds.{got}
use Rattle.energy.proofs.inverse_sqrt.Goals as goal

pub returns : goal.returns
unfolding Inv_sqrt inverses
returns c = let f = c.ranges.value in got w32 c.inverse_sqrt_in.type_inv (simp to_z-of_z at c.inverse_sqrt_in.ensures)
