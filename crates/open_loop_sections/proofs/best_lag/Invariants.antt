use Rattle.std.proofs.Common.{◌≡◌, ◌+◌, ◌≤◌}
use Rattle.std.specs.Int.Signed.{lt_z}
use Rattle.fixed.specs.Lists.{at, best}
use Rattle.open_loop_sections.proofs.best_lag.Given as goal

abbrev pub invariant-loop-i : goal.invariant-loop-i
invariant-loop-i l = (l.lag ≤ l.low + l.i) × (l.lag ≡ best lt_z (at l.table) l.low l.i)
