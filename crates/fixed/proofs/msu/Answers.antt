use mir.Syntax.{w32}
use mir.Facts.{to_z-of_z}
use Rattle.fixed.specs.Operators.{L_msu}
use Rattle.fixed.proofs.Bounds.{got}
use Rattle.fixed.proofs.msu.Goals as goal

pub returns : goal.returns
unfolding L_msu
returns c =
    let s = c in
    simp (
      to_z-of_z s.ranges.sum,
      to_z-of_z s.ranges.a,
      to_z-of_z s.ranges.b,
      got w32 c.sub.type_inv c.sub.ensures,
      got w32 c.product.type_inv c.product.ensures,
    )
