use Rattle.std.proofs.lemmas.Bool.{leb-true}
use mathlib.Core.Path.{◌≡◌, ◌∙◌}
use Prim.Native.Nat.{◌≤◌, ◌^◌}
use Rattle.std.proofs.Math.Nat.{min-eq_left}
use lib.IntN.{pos}
use native.Mathlib.Omega.{arith}
use mir.Syntax.{w64}
use mir.Facts.{to_z-of_z}
use Rattle.fixed.proofs.Bounds.{of_bits, got, fits_32_64, shift_fits}
use Rattle.fixed.proofs.Shifts.{left_at, left_fits, right_at}
use Rattle.fixed.proofs.shift.Goals as goal

pub returns-then-n-lt0 : goal.returns-then-n-lt0
returns-then-n-lt0 g c =
    let n = c.ranges.n in
    let o = g.met.N.Clipped.operators in
    let v = of_bits _ c.wide.result (leb-true _ _ o.width) c.wide.ensures.bound in
    let e = simp (to_z-of_z, fits_32_64, shift_fits) at c.clip.ensures in
    rw (c.wide.ensures.value, c.min-places.ensures, c.unsigned_abs.ensures.value, to_z-of_z n) at e
    ∙ right_at _ _ _ (leb-true _ _ o.width) (rw c.wide.ensures.value at c.wide.ensures.bound) (simp to_z-of_z at c.if-n-lt0.true)

pub overflow_mul-wide : goal.overflow_mul-wide
overflow_mul-wide g c =
    let o = g.met.N.Clipped.operators in
    let v = of_bits _ c.wide-2.result (leb-true _ _ o.width) c.wide-2.ensures.bound in
    let w = fits_32_64 v in
    let h : c.min-places.result ≤ 31 = rw c.min-places.ensures (omega arith) in
    let p : c.power_of_two.result ≡ pos (2 ^ c.min-places.result) = rw (min-eq_left h) at c.power_of_two.ensures in
    simp (to_z-of_z, got w64 c.power_of_two.type_inv p) (left_fits c.min-places.result v h)

pub returns : goal.returns
returns g c =
    let n = c.ranges.n in
    let o = g.met.N.Clipped.operators in
    let v = of_bits _ c.wide-2.result (leb-true _ _ o.width) c.wide-2.ensures.bound in
    let w = fits_32_64 v in
    let h : c.min-places.result ≤ 31 = rw c.min-places.ensures (omega arith) in
    let l = left_fits c.min-places.result v h in
    let p : c.power_of_two.result ≡ pos (2 ^ c.min-places.result) = rw (min-eq_left h) at c.power_of_two.ensures in
    let e = simp (to_z-of_z, got w64 c.power_of_two.type_inv p) at c.clip-2.ensures in
    rw (c.wide-2.ensures.value, c.min-places.ensures, c.unsigned_abs.ensures.value, to_z-of_z n) at e
    ∙ left_at _ _ _ (leb-true _ _ o.width) (rw c.wide-2.ensures.value at c.wide-2.ensures.bound) (simp to_z-of_z at c.if-n-lt0.false)
