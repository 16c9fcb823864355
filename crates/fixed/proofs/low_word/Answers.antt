use Prim.Native.Nat.{◌^◌}
use native.Mathlib.Omega.{arith}
use lib.IntN.{ℤ, pos, ◌+ℤ◌, ◌-ℤ◌, ◌*ℤ◌}
use lib.Signed.{shr_z}
use mir.Syntax.{w16, w32, w64}
use mir.Val.{SFits}
use mir.Facts.{to_z-of_z, sfits_widen, sfits_lit}
use Rattle.fixed.specs.Operators.{extract_l}
use Rattle.fixed.proofs.Bounds.{fits_32_64, sum_64, abs_add, abs_fits, abs_shr, scaled_fits, shift_fits, ok}
use Rattle.fixed.proofs.Signs.{floor_rest, remainder_lt, centred}
use Rattle.fixed.proofs.low_word.Goals as goal

-- z raised by 32768, the multiple of 65536 at or below that, the rest, and the rest less 32768
raised : {z : ℤ} → SFits w32 z → SFits w64 (z +ℤ pos 32768)
raised f = sum_64 f (sfits_lit tt)

multiple : {z : ℤ} → SFits w32 z → SFits w64 (shr_z (z +ℤ pos 32768) 65536 *ℤ pos 65536)
multiple {z} f =
    scaled_fits w64 (shr_z (z +ℤ pos 32768) 65536) (2 ^ 32) 65536 (omega (arith, abs_shr (z +ℤ pos 32768) 65536, abs_add z (pos 32768), abs_fits f)) tt

rest : (z : ℤ) → SFits w64 ((z +ℤ pos 32768) -ℤ shr_z (z +ℤ pos 32768) 65536 *ℤ pos 65536)
rest z = rw (floor_rest 65536 (z +ℤ pos 32768) (omega arith)) (ok w64 _ (omega (arith, remainder_lt 65536 (z +ℤ pos 32768) (omega arith))))

word : (z : ℤ) → SFits w16 ((z +ℤ pos 32768) -ℤ shr_z (z +ℤ pos 32768) 65536 *ℤ pos 65536 -ℤ pos 32768)
word z = rw (floor_rest 65536 (z +ℤ pos 32768) (omega arith)) (centred _ (remainder_lt 65536 (z +ℤ pos 32768) (omega arith)))

word_64 : (z : ℤ) → SFits w64 ((z +ℤ pos 32768) -ℤ shr_z (z +ℤ pos 32768) 65536 *ℤ pos 65536 -ℤ pos 32768)
word_64 z = sfits_widen tt (word z)

pub overflow_cast-result : goal.overflow_cast-result
overflow_cast-result c =
    let f = c.ranges.v in
    let g = fits_32_64 f in
    let s = raised f in
    let m = multiple f in
    let r = rest c.args.v in
    let w = word c.args.v in
    let v = word_64 c.args.v in
    simp (to_z-of_z, shift_fits) w

pub returns : goal.returns
unfolding extract_l
returns c =
    let f = c.ranges.v in
    let g = fits_32_64 f in
    let s = raised f in
    let m = multiple f in
    let r = rest c.args.v in
    let w = word c.args.v in
    let v = word_64 c.args.v in
    simp (to_z-of_z, shift_fits) (rw (floor_rest 65536 (c.args.v +ℤ pos 32768) (omega arith)))
