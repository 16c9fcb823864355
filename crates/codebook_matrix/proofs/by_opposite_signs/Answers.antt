use Rattle.std.proofs.Common.{negsuc, w16}
use mir.Facts.{to_z-of_z}
use Rattle.fixed.proofs.Bounds.{ok, shift_fits}
use Rattle.codebook_matrix.proofs.SignProducts.{other_is, mult_fits}
use Rattle.codebook_matrix.proofs.by_opposite_signs.Goals as goal

pub returns : goal.returns
returns c =
    let v = c.args.v in
    let f = c.ranges.v in
    rw (to_z-of_z f, to_z-of_z (shift_fits 32768 f), ← (other_is v f.sfits)) (to_z-of_z (ok w16 _ (mult_fits v (negsuc 32766))))
