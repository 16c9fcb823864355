use Rattle.std.proofs.Common.{◌≡◌, ◌<◌, ℤ, pos, nat_abs, ◌+ℤ◌, ◌*ℤ◌, sym, w32, SFits, arith}
use lib.Signed.{shr_z}
use mir.Facts.{to_z-of_z}
use Rattle.fixed.specs.Operators.{L_add, extract_h, round}
use Rattle.fixed.proofs.Bounds.{fits_abs, abs_add, abs_mul, high_fits, shift_fits}
use Rattle.fixed.proofs.Clips.{clip_id}
use Rattle.codebook_matrix.proofs.rounded_double.Goals as goal

module _ (z : ℤ) (h : nat_abs z < 1073725440) where
  twice : SFits w32 (pos 2 *ℤ z)
  twice = fits_abs w32 (pos 2 *ℤ z) (omega (arith, abs_mul (pos 2) z))

  whole : SFits w32 (pos 2 *ℤ z +ℤ pos 32768)
  whole = fits_abs w32 (pos 2 *ℤ z +ℤ pos 32768) (omega (arith, abs_add (pos 2 *ℤ z) (pos 32768), abs_mul (pos 2) z))

  is_round : round (pos 2 *ℤ z) ≡ shr_z (pos 2 *ℤ z +ℤ pos 32768) 65536
  unfolding round extract_h L_add
  is_round = rw (clip_id 31 (pos 2 *ℤ z +ℤ pos 32768) whole.sfits)

pub returns : goal.returns
returns c =
    let w = whole c.args.sum c.requires in
    rw (to_z-of_z c.ranges.sum, to_z-of_z (twice c.args.sum c.requires), to_z-of_z w, to_z-of_z (shift_fits 65536 w), to_z-of_z (high_fits w)) (sym (is_round c.args.sum c.requires))
