use mir.Syntax.{w16, w32}
use mir.Facts.{to_z-of_z}
use Rattle.fixed.specs.Operators.{round}
use Rattle.fixed.proofs.Bounds.{got}
use Rattle.fixed.proofs.rounded.Goals as goal

pub returns : goal.returns
unfolding round
returns c =
    simp (
      to_z-of_z c.ranges.v,
      got w16 c.high.type_inv c.high.ensures,
      got w32 c.add.type_inv c.add.ensures,
    )
