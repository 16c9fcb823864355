use mathlib.Core.Path.{◌≡◌}
use native.Mathlib.Omega.{arith}
use mir.Syntax.{w32}
use Rattle.fixed.proofs.Bounds.{got}
use Rattle.open_loop_correlation.proofs.Energies.{energy_part}
use Rattle.open_loop_correlation.proofs.energy.Goals as goal

pub returns : goal.returns
returns c =
    let a = c.args in
    let n : c.loop-word.word-index ≡ a.count = omega arith in
    rw (got w32 c.held_energy.type_inv c.held_energy.ensures, c.loop-word.invariant.0, n)
    (energy_part a.words.now a.from a.count (omega arith))
