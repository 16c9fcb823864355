use mathlib.Core.Path.{◌≡◌}
use Rattle.open_loop_correlation.proofs.Energies.{half}
use Rattle.open_loop_correlation.proofs.plain_at.Given as goal

abbrev pub invariant-loop-i : goal.invariant-loop-i
invariant-loop-i l = l.sum ≡ half l.words l.lag l.i
