use mathlib.Core.Path.{◌≡◌, sym, ap}
use mathlib.Core.Bool.{true, false}
use Prim.Native.Nat.{suc, ◌*◌, ◌^◌, ◌<◌, ◌≤◌}
use native.Mathlib.Nat.{mul-le-mul}
use native.Mathlib.Omega.{arith}
use lib.IntN.{ℤ, pos, negsuc, nat_abs, ◌*ℤ◌}
use lib.Signed.{mag, lt_z}
use mir.Syntax.{w16, w32}
use mir.Val.{SFits, to_z, of_z}
use mir.Facts.{to_z-of_z}
use borrow.Author.Tests.{ltb-true, ltb-false}
use Rattle.fixed.specs.Clip.{clip}
use Rattle.fixed.specs.Operators.{L_mult}
use Rattle.fixed.proofs.Bounds.{fits_16_32, product_32, abs_fits, abs_mul, ok}
use Rattle.fixed.proofs.Clips.{contradiction, clip_id}
use Rattle.fixed.proofs.Signs.{mag_neg}
use Rattle.fixed.proofs.product.Goals as goal

-- what the local reads that holds the product
read : {a b : ℤ} → SFits w16 a → SFits w16 b → to_z w32 (of_z w32 (to_z w32 (of_z w32 (to_z w16 (of_z w16 a))) *ℤ to_z w32 (of_z w32 (to_z w16 (of_z w16 b))))) ≡ a *ℤ b
read f g = let f' = fits_16_32 f in let g' = fits_16_32 g in let p = product_32 f g in simp to_z-of_z

-- above 2 ^ 30 - 1, twice the product is past the end
doubled_over : (z : ℤ) → lt_z (pos 1073741823) z ≡ true → pos 2147483647 ≡ clip 31 (pos 2 *ℤ z)
doubled_over (pos n) e = ap pos (omega (arith, ltb-true))
doubled_over (negsuc n) e = contradiction e

-- below, it fits: no product of words is below -2 ^ 30
mag_doubled : (z : ℤ) → nat_abs z ≤ 2 ^ 30 → lt_z (pos 1073741823) z ≡ false → mag (pos 2 *ℤ z) < 2 ^ 31
mag_doubled (pos n) h e = omega (arith, ltb-false)
mag_doubled (negsuc n) h e = omega (arith, mag_neg (2 * suc n))

doubled_fits : {a b : ℤ} → SFits w16 a → SFits w16 b → lt_z (pos 1073741823) (a *ℤ b) ≡ false → SFits w32 (pos 2 *ℤ (a *ℤ b))
doubled_fits {a} {b} f g t =
    ok w32 (pos 2 *ℤ (a *ℤ b)) (mag_doubled (a *ℤ b) (rw (abs_mul a b) (mul-le-mul (abs_fits f) (abs_fits g))) t)

pub returns-then-p-gt-MOST_UNDOUBLED : goal.returns-then-p-gt-MOST_UNDOUBLED
unfolding L_mult
returns-then-p-gt-MOST_UNDOUBLED c =
    let f = c.ranges.a in
    let g = c.ranges.b in
    doubled_over (c.args.a *ℤ c.args.b) (rw (read f g) at c.if-p-gt-MOST_UNDOUBLED.true)

pub overflow_mul-result : goal.overflow_mul-result
overflow_mul-result c =
    let f = c.ranges.a in
    let g = c.ranges.b in
    rw (read f g) (doubled_fits f g (rw (read f g) at c.if-p-gt-MOST_UNDOUBLED.false))

pub returns : goal.returns
unfolding L_mult
returns c =
    let f = c.ranges.a in
    let g = c.ranges.b in
    let d = doubled_fits f g (rw (read f g) at c.if-p-gt-MOST_UNDOUBLED.false) in
    rw (read f g, to_z-of_z d) (sym (clip_id 31 (pos 2 *ℤ (c.args.a *ℤ c.args.b)) d.sfits))
