use Rattle.std.proofs.Common.{◌^◌, ◌≤◌, ℤ, pos, nat_abs, ◌+ℤ◌, ◌*ℤ◌, sym, w16, w32, SFits, arith}
use native.Mathlib.Nat.{mul-le-mul}
use mir.Facts.{to_z-of_z}
use Rattle.fixed.proofs.Bounds.{got, fits_abs, abs_fits, abs_add, abs_mul, shift_fits, fits_32_64}
use Rattle.codebook_matrix.proofs.Scaling.{scaled_plain}
use Rattle.codebook_matrix.proofs.scaled_word.Goals as goal

module _ {a b : ℤ} (f : SFits w16 a) (g : SFits w16 b) where
  small : nat_abs (a *ℤ b) ≤ 2 ^ 30
  small = let l = mul-le-mul (abs_fits f) (abs_fits g) in omega (arith, abs_mul a b)

  whole : SFits w32 (a *ℤ b +ℤ pos 32)
  whole = fits_abs w32 (a *ℤ b +ℤ pos 32) (omega (arith, small, abs_add (a *ℤ b) (pos 32)))

pub returns : goal.returns
returns c =
    let f = c.ranges.word in
    let g = c.ranges.gain in
    rw (got w16 c.clip.type_inv c.clip.ensures, got w32 c.exact.type_inv c.exact.ensures, to_z-of_z f, to_z-of_z g, to_z-of_z (whole f g), to_z-of_z (shift_fits 64 (whole f g)), to_z-of_z (fits_32_64 (shift_fits 64 (whole f g))))
    (sym (scaled_plain c.args.word c.args.gain (small f g)))
