use mir.Syntax.{w16, w32}
use mir.Facts.{to_z-of_z}
use Rattle.fixed.specs.Operators.{Mpy_32_16}
use Rattle.fixed.proofs.Bounds.{got}
use Rattle.compound.proofs.multiply_word.Goals as goal

pub returns : goal.returns
unfolding Mpy_32_16
returns c =
    simp (
      to_z-of_z c.ranges.a,
      to_z-of_z c.ranges.n,
      got w32 c.mac.type_inv c.mac.ensures,
      got w16 c.fractional.type_inv c.fractional.ensures,
      got w16 c.low.type_inv c.low.ensures,
      got w32 c.product.type_inv c.product.ensures,
      got w16 c.high.type_inv c.high.ensures,
    )
