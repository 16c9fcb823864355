use mathlib.Core.Path.{◌≡◌}
use Rattle.fixed.specs.Lists.{dot}
use Rattle.sums.proofs.dot40.Given as goal

abbrev pub invariant-loop-i : goal.invariant-loop-i
invariant-loop-i l = l.sum ≡ dot l.x l.y l.i
