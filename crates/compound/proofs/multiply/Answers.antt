use mir.Syntax.{w16, w32}
use mir.Facts.{to_z-of_z}
use Rattle.fixed.specs.Operators.{Mpy_32}
use Rattle.fixed.proofs.Bounds.{got}
use Rattle.compound.proofs.multiply.Goals as goal

pub returns : goal.returns
unfolding Mpy_32
returns c =
    simp (
      to_z-of_z c.ranges.a,
      to_z-of_z c.ranges.b,
      got w32 c.mac.type_inv c.mac.ensures,
      got w16 c.fractional-2.type_inv c.fractional-2.ensures,
      got w16 c.low-2.type_inv c.low-2.ensures,
      got w32 c.mac-upper.type_inv c.mac-upper.ensures,
      got w16 c.fractional.type_inv c.fractional.ensures,
      got w16 c.low.type_inv c.low.ensures,
      got w32 c.product.type_inv c.product.ensures,
      got w16 c.high-bh.type_inv c.high-bh.ensures,
      got w16 c.high-ah.type_inv c.high-ah.ensures,
    )
