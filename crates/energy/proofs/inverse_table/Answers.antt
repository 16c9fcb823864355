use mathlib.Core.Path.{refl}
use Rattle.energy.specs.Root.{inverses}
use Rattle.energy.proofs.inverse_table.Goals as goal

pub returns : goal.returns
unfolding inverses
returns c = refl
