use lib.IntN.{ℤ, pos, ◌-ℤ◌, ◌*ℤ◌}
use Prim.Native.Nat.{◌^◌}
use native.Mathlib.Omega.{arith}
use lib.Signed.{shr_z}
use mir.Syntax.{w16, w32}
use mir.Val.{SFits}
use mir.Facts.{to_z-of_z}
use Rattle.fixed.specs.Operators.{extract_h, low_half}
use Rattle.fixed.proofs.Bounds.{shift_fits, high_fits, fits_16_32, abs_fits, scaled_fits, ok}
use Rattle.fixed.proofs.Signs.{low_rest, remainder_lt}
use Rattle.compound.proofs.low.Goals as goal

scaled : {z : ℤ} → SFits w32 z → SFits w32 (shr_z z 65536 *ℤ pos 32768)
scaled {z} f = scaled_fits w32 (shr_z z 65536) (2 ^ 15) 32768 (abs_fits (high_fits f)) tt

difference : (z : ℤ) → SFits w16 (shr_z z 2 -ℤ shr_z z 65536 *ℤ pos 32768)
difference z = rw (low_rest z) (ok w16 _ (remainder_lt 32768 (shr_z z 2) (omega arith)))

pub returns : goal.returns
unfolding low_half extract_h
returns c =
    let f = c.ranges.v in
    let s = scaled f in
    let d = difference c.args.v in
    simp (to_z-of_z, shift_fits) (rw (to_z-of_z (fits_16_32 d), to_z-of_z d))
