use mathlib.Core.Path.{◌≡◌}
use borrow.Author.Rules.{rules}
use mir.Facts.{to_z-of_z}
use mir.Syntax.{w16, w32, w64}
use mir.Val.{to_z, of_z}
use Rattle.fixed.proofs.Bounds.{got}
use Rattle.fixed.proofs.Products.{high_whole}
use Rattle.energy.specs.Root.{Inv_sqrt}
use Rattle.pitch_correlation.proofs.normalized.Goals as goal

pub returns : goal.returns
unfolding Inv_sqrt
returns c =
    let m : to_z w64 (of_z w64 (to_z w32 (of_z w32 c.multiply.result))) ≡ to_z w32 (of_z w32 c.multiply.result) = search rules in
    rw (
      got w16 c.clip.type_inv c.clip.ensures,
      m,
      got w32 c.multiply.type_inv c.multiply.ensures,
      got w32 c.inverse_sqrt_in-root.type_inv c.inverse_sqrt_in-root.ensures,
      to_z-of_z c.ranges.sum,
      to_z-of_z c.ranges.energy,
      c.requires,
      high_whole _,
    )
