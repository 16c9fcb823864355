use Rattle.std.proofs.Common.{◌≡◌, ◌+◌, ◌*◌, min, pos, ap, w32, arith}
use Rattle.fixed.specs.Operators.{L_add}
use Rattle.fixed.specs.Lists.{at}
use Rattle.fixed.proofs.Bounds.{got}
use Rattle.sums.specs.Plain.{squared}
use Rattle.sums.proofs.Sums.{energy_from, energy_is}
use Rattle.codebook_matrix.specs.Matrices.{energy}
use Rattle.codebook_matrix.proofs.energy.Goals as goal

pub returns : goal.returns
unfolding energy L_add
returns c =
    let hs = c.args.impulse.now in
    let e : min (min (2 * squared (at hs) 40) 2147483647 + 2) 2147483647 ≡ min (2 + 2 * squared (at hs) 40) 2147483647 = omega arith in
    rw (got w32 c.add.type_inv c.add.ensures, got w32 c.energy40.type_inv c.energy40.ensures, energy_is hs 40, energy_from 2 hs 40 (omega arith)) (ap pos e)
