use Rattle.std.proofs.Common.{◌≡◌, ◌≤◌, ◌+◌}
use Rattle.fixed.specs.Lists.{at}
use Rattle.sums.specs.Plain.{plain}
use Rattle.sums.proofs.plain_sum.Given as goal

abbrev pub invariant-loop-k : goal.invariant-loop-k
invariant-loop-k l = (l.from ≤ 40) × (l.sum ≡ plain (at l.input) (λ i. at l.reversed (l.from + i)) l.k)
