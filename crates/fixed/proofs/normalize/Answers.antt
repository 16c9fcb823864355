use mathlib.Core.Path.{◌≡◌, sym, ap, ◌∙◌}
use Prim.Native.Nat.{ℕ, ◌-◌, ◌<◌}
use native.Mathlib.Omega.{arith}
use lib.Count.{count_leading_zeros, leading_le}
use lib.IntN.{ℤ, pos}
use lib.Signed.{mag}
use mir.Syntax.{w16, w32}
use mir.Val.{to_z, of_z}
use mir.Facts.{to_z-of_z, to_z_pos}
use Rattle.fixed.specs.Operators.{norm_l}
use Rattle.fixed.proofs.Norms.{one_zero, norm_mag}
use Rattle.fixed.proofs.normalize.Goals as goal

zero_norm : (z : ℤ) → z ≡ pos 0 → 0 ≡ norm_l z
unfolding norm_l
zero_norm z e = rw e

bits : (c : goal.After-magnitude) → c.magnitude.result ≡ mag c.args.v
bits c = let f = c.ranges.v in simp to_z-of_z at c.magnitude.ensures

small : (c : goal.After-magnitude) → count_leading_zeros 32 c.magnitude.result - 1 < 32768
small c = omega (arith, leading_le 32 c.magnitude.result)

pub returns-then-v-eq0 : goal.returns-then-v-eq0
returns-then-v-eq0 c =
    let e : c.args.v ≡ pos 0 = sym (to_z-of_z c.ranges.v) ∙ ap (to_z w32) c.if-v-eq0.true in
    ap pos (zero_norm c.args.v e)

pub overflow_sub-result : goal.overflow_sub-result
overflow_sub-result c = let f = c.ranges.v in rw (bits c) (one_zero _ f.sfits)

pub returns : goal.returns
returns c =
    let v = c.args.v in
    to_z_pos w16 (small c)
    ∙ ap pos (ap (λ (n : ℕ). count_leading_zeros 32 n - 1) (bits c) ∙ norm_mag v (λ (e : v ≡ pos 0). c.if-v-eq0.false (ap (of_z w32) e)))
