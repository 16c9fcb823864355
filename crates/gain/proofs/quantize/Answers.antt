use mathlib.Core.Path.{◌≡◌, sym}
use mathlib.Core.List.{[], ◌∷◌}
use mir.Syntax.{w16}
use mir.Val.{to_z, of_z}
use mir.Facts.{to_z-of_z}
use borrow.Author.Rules.{rules}
use borrow.Author.Tests.{eq-eqb}
use Rattle.fixed.proofs.Bounds.{got}
use Rattle.refusal.specs.Checks.{known_limit, predicted_exponent, power_fraction}
use Rattle.refusal.proofs.Checkings.{accepted_alone, accepted_all}
use Rattle.gain_limit.specs.Limits.{limit_number, limit_choice}
use Rattle.gain.specs.Rows.{gcode0, Qua_gain, quantize}
use Rattle.gain.proofs.quantize.Goals as goal

pub returns : goal.returns
unfolding quantize Qua_gain limit_choice
returns c =
    let a = c.args in
    let f = to_z-of_z c.ranges.exponent in
    let t = c.in_ok-target.ensures.ok in
    let y = c.in_ok-adaptive.ensures.ok in
    let z = c.in_ok-filtered.ensures.ok in
    let l = accepted_alone (known_limit a.limit) a.limit (limit_number c.in_ok-limit.limit) c.in_ok-limit.ensures in
    let p = accepted_all (gcode0 a.fraction) c.in_ok-gcode0.gcode0 (predicted_exponent a.exponent ∷ power_fraction a.fraction ∷ []) (rw f at (sym c.in_ok-gcode0.ensures)) in
    let g : to_z w16 (of_z w16 c.in_ok-gcode0.gcode0) ≡ c.in_ok-gcode0.gcode0 = search rules in
    rw (
      eq-eqb _ _ t.0,
      eq-eqb _ _ y.0,
      eq-eqb _ _ z.0,
      l.0,
      p.0.0,
      p.0.1.0,
      c.qua_gain.ensures,
      t.1,
      y.1,
      z.1,
      f,
      g,
      p.1,
      got w16 c.pitch_q14.type_inv c.pitch_q14.ensures,
      l.1,
    )
