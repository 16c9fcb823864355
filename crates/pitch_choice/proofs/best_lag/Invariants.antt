use Rattle.std.proofs.Common.{◌≡◌, ◌+◌, ◌≤◌}
use Rattle.pitch_choice.specs.Choices.{best_lag}
use Rattle.pitch_choice.proofs.best_lag.Given as goal

abbrev pub invariant-loop-i : goal.invariant-loop-i
invariant-loop-i l = (l.lag ≤ l.start + l.i) × (l.lag ≡ best_lag l.correlation l.start l.i)
