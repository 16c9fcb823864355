use mathlib.Core.Path.{◌≡◌}
use native.Mathlib.Nat.{mul-le-mul}
use lib.IntN.{◌+ℤ◌, ◌*ℤ◌}
use mir.Syntax.{w32}
use mir.Facts.{to_z-of_z}
use Rattle.fixed.specs.Operators.{L_mult, L_mac, L_mac_overflow, L_mac_flagged, beyond}
use Rattle.fixed.proofs.Bounds.{abs_fits, abs_mul, got}
use Rattle.compound.proofs.Overflows.{past_end, past_product}
use Rattle.compound.proofs.mac_flagged.Goals as goal

pub returns : goal.returns
unfolding L_mac_flagged L_mac L_mac_overflow
returns c =
    let a = c.args.a in
    let b = c.args.b in
    let s = c.args.sum in
    let p = got w32 c.product-doubled.type_inv c.product-doubled.ensures in
    let e : c.overflowing_add-past.result.1 ≡ beyond 31 (s +ℤ L_mult a b) =
    past_end _ _ (rw (to_z-of_z c.ranges.sum, p, to_z-of_z c.ranges.a, to_z-of_z c.ranges.b) at c.overflowing_add-past.ensures.overflow) in
    rw (
      got w32 c.add.type_inv c.add.ensures,
      p,
      e,
      got w32 c.exact.type_inv c.exact.ensures,
      to_z-of_z c.ranges.sum,
      to_z-of_z c.ranges.a,
      to_z-of_z c.ranges.b,
      past_product (a *ℤ b) (rw (abs_mul a b) (mul-le-mul (abs_fits c.ranges.a) (abs_fits c.ranges.b))),
    )
