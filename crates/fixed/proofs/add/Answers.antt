use Rattle.std.proofs.lemmas.Bool.{leb-true}
use mathlib.Core.Path.{sym, ◌∙◌}
use mir.Facts.{to_z-of_z}
use Rattle.fixed.proofs.Bounds.{of_bits, fits_32_64, sum_64}
use Rattle.fixed.proofs.add.Goals as goal

pub returns : goal.returns
returns g c =
    let o = g.met.N.Clipped.operators in
    let a = of_bits _ c.wide.result (leb-true _ _ o.width) c.wide.ensures.bound in
    let b = of_bits _ c.wide-2.result (leb-true _ _ o.width) c.wide-2.ensures.bound in
    let e = simp (to_z-of_z, fits_32_64, sum_64) at c.clip.ensures in
    rw (c.wide.ensures.value, c.wide-2.ensures.value) at e ∙ sym (o.sums _ _)
