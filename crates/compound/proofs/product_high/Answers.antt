use Prim.Native.Nat.{◌≤◌, ◌-◌, ◌^◌, min}
use mathlib.Core.Path.{◌∙◌}
use native.Mathlib.Omega.{arith}
use mir.Syntax.{w16, w32}
use mir.Facts.{to_z-of_z}
use Rattle.fixed.proofs.Bounds.{got, fits_32_64, ok, product_32, shift_fits}
use Rattle.fixed.proofs.Products.{product_high}
use Rattle.compound.proofs.product_high.Goals as goal

pub returns : goal.returns
returns c =
    let n : min c.args.n 15 ≤ 15 = omega arith in
    let f = c.ranges.a in
    let g = c.ranges.b in
    let s = shift_fits {w = w32} (2 ^ (15 - min c.args.n 15)) (product_32 f g) in
    let t = fits_32_64 s in
    let e = got w32 c.exact.type_inv (simp to_z-of_z at c.exact.ensures) in
    let h = rw (c.min.ensures, e) at c.clip.ensures in
    rw (product_high c.args.a c.args.b (min c.args.n 15) n)
    (to_z-of_z (ok w16 c.clip.result c.clip.type_inv) ∙ (simp to_z-of_z at h))
