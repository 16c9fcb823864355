use Rattle.std.proofs.Common.{◌≡◌, ◌≤◌, ◌*◌, ◌^◌}
use Rattle.sums.proofs.Halves.{halves}
use Rattle.sums.proofs.squares40.Given as goal

abbrev pub invariant-loop-i : goal.invariant-loop-i
invariant-loop-i l = (l.sum ≡ halves l.x l.i) × (l.sum ≤ l.i * 2 ^ 31)
