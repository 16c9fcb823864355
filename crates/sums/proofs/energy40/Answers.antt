use mathlib.Core.Path.{sym}
use mir.Syntax.{w32}
use Rattle.fixed.proofs.Bounds.{got}
use Rattle.sums.proofs.Sums.{energy_is}
use Rattle.sums.proofs.energy40.Goals as goal

pub returns : goal.returns
returns c = rw (got w32 c.held_energy.type_inv c.held_energy.ensures, c.squares40.ensures) (sym (energy_is c.args.x.now 40))
