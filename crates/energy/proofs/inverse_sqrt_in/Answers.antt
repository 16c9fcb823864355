use mathlib.Core.Path.{◌≡◌, ◌∙◌}
use lib.IntN.{pos, nat_abs}
use mir.Syntax.{w32}
use mir.Facts.{to_z-of_z}
use Rattle.energy.specs.Root.{root_in, Inv_sqrt_in}
use Rattle.fixed.proofs.Bounds.{got}
use Rattle.fixed.proofs.Signs.{positive, not_positive, is_positive}
use Rattle.energy.proofs.inverse_sqrt_in.Goals as goal

pub returns-then-value-lt1 : goal.returns-then-value-lt1
unfolding Inv_sqrt_in
returns-then-value-lt1 c = not_positive _ (λ n. pos (root_in c.args.table.now n)) c.args.value (rw (to_z-of_z c.ranges.value) at c.if-value-lt1.true)

pub positive_root-requires : goal.positive_root-requires
positive_root-requires c =
    let f = c.ranges.value in
    let size : c.unsigned_abs.result ≡ nat_abs c.args.value = simp to_z-of_z at c.unsigned_abs.ensures.value in
    rw size (positive c.args.value (rw (to_z-of_z f) at c.if-value-lt1.false) f)

pub returns : goal.returns
unfolding Inv_sqrt_in
returns c =
    let f = c.ranges.value in
    let size : c.unsigned_abs.result ≡ nat_abs c.args.value = simp to_z-of_z at c.unsigned_abs.ensures.value in
    got w32 c.positive_root.type_inv (rw size at c.positive_root.ensures)
    ∙ is_positive _ (λ n. pos (root_in c.args.table.now n)) c.args.value (rw (to_z-of_z f) at c.if-value-lt1.false)
