use mathlib.Core.Path.{◌≡◌}
use borrow.Author.Rules.{rules}
use mir.Syntax.{w16, w32}
use mir.Facts.{to_z-of_z}
use mir.Val.{to_z, of_z}
use Rattle.fixed.proofs.Bounds.{got}
use Rattle.gain_sums.specs.Sums.{counted_sum}
use Rattle.gain_coefficients.specs.Energies.{calc_filt_energies, exp_max, coefficients, counted_coefficients}
use Rattle.gain_coefficients.proofs.counted_coefficients.Goals as goal

pub returns : goal.returns
unfolding counted_coefficients coefficients exp_max calc_filt_energies counted_sum
returns c =
    let zz : to_z w32 (of_z w32 c.dot-zz.result.value) ≡ c.dot-zz.result.value = search rules in
    let xz : to_z w32 (of_z w32 c.dot-xz.result.value) ≡ c.dot-xz.result.value = search rules in
    let yz : to_z w32 (of_z w32 c.dot-yz.result.value) ≡ c.dot-yz.result.value = search rules in
    rw (
      c.on_one_scale-list.ensures,
      c.raised.ensures,
      c.raised-2.ensures,
      c.adaptive_correlation.ensures,
      c.raised-3.ensures,
      c.cut.ensures,
      zz,
      got w16 c.add.type_inv c.add.ensures,
      got w16 c.shift.type_inv c.shift.ensures,
      c.raised-4.ensures,
      c.negated.ensures,
      c.cut-2.ensures,
      xz,
      c.raised-5.ensures,
      c.cut-3.ensures,
      yz,
      got w16 c.add-2.type_inv c.add-2.ensures,
      to_z-of_z c.ranges.code,
      c.dot-zz.ensures.counted,
      c.dot-xz.ensures.counted,
      c.dot-yz.ensures.counted,
    )
