use mir.Facts.{to_z-of_z}
use mir.Syntax.{w16, w32}
use Rattle.fixed.specs.Operators.{mult}
use Rattle.fixed.proofs.Bounds.{got, fits_32_64, product_32, shift_fits}
use Rattle.fixed.proofs.fractional.Goals as goal

pub returns : goal.returns
unfolding mult
returns c =
    let f = c.ranges.a in
    let g = c.ranges.b in
    let p = product_32 f g in
    let s = shift_fits {w = w32} 32768 p in
    let l = fits_32_64 s in
    got w16 c.clip.type_inv (simp (to_z-of_z, got w32 c.exact.type_inv c.exact.ensures) at c.clip.ensures)
