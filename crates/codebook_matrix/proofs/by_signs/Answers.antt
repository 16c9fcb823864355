use Rattle.std.proofs.Common.{◌≡◌, sym, ap, ◌∙◌, w16, to_z, of_z}
use mir.Facts.{to_z-of_z}
use Rattle.fixed.proofs.Bounds.{got}
use Rattle.codebook_matrix.proofs.SignProducts.{same_sign, other_sign}
use Rattle.codebook_matrix.proofs.by_signs.Goals as goal

pub returns-then-a-b : goal.returns-then-a-b
returns-then-a-b c =
    let a = c.args in
    let r = c.ranges in
    let e : a.a ≡ a.b = sym (to_z-of_z r.a) ∙ ap (to_z w16) c.if-a-b.true ∙ to_z-of_z r.b in
    rw (same_sign a.a a.b c.requires.0 e, got w16 c.by_equal_signs.type_inv c.by_equal_signs.ensures, to_z-of_z r.value)

pub returns : goal.returns
returns c =
    let a = c.args in
    let r = c.ranges in
    rw (other_sign a.a a.b c.requires.0 c.requires.1 (λ (e : a.a ≡ a.b). c.if-a-b.false (ap (of_z w16) e)), got w16 c.by_opposite_signs.type_inv c.by_opposite_signs.ensures, to_z-of_z r.value)
