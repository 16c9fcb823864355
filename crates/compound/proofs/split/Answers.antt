use mir.Syntax.{w16}
use mir.Facts.{to_z-of_z}
use Rattle.fixed.specs.Operators.{L_Extract}
use Rattle.fixed.proofs.Bounds.{got}
use Rattle.compound.proofs.split.Goals as goal

pub returns : goal.returns
unfolding L_Extract
returns c =
    simp (
      to_z-of_z c.ranges.v,
      got w16 c.low.type_inv c.low.ensures,
      got w16 c.high.type_inv c.high.ensures,
    )
