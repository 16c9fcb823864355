use Rattle.std.proofs.Common.{ℤ, pos, ◌+ℤ◌, w16, SFits, arith}
use mir.Facts.{to_z-of_z}
use Rattle.fixed.proofs.Bounds.{ok, fits_abs, abs_add, shift_fits}
use Rattle.codebook_matrix.proofs.SignProducts.{up, up_is, up_small, same_is, mult_fits}
use Rattle.codebook_matrix.proofs.by_equal_signs.Goals as goal

half : (v : ℤ) → SFits w16 v → SFits w16 (up v)
half v f = fits_abs w16 (up v) (omega (arith, up_small v f.sfits))

raised : (v : ℤ) → SFits w16 v → SFits w16 (up v +ℤ pos 8191)
raised v f = fits_abs w16 (up v +ℤ pos 8191) (omega (arith, up_small v f.sfits, abs_add (up v) (pos 8191)))

pub returns : goal.returns
returns c =
    let v = c.args.v in
    let f = c.ranges.v in
    rw (to_z-of_z f, to_z-of_z (shift_fits 2 f), up_is v, to_z-of_z (half v f), to_z-of_z (raised v f), to_z-of_z (shift_fits 8192 (raised v f)), ← (same_is v f.sfits))
    (to_z-of_z (ok w16 _ (mult_fits v (pos 32766))))
