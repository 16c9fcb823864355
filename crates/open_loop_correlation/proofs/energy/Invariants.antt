use Rattle.std.proofs.Common.{◌≡◌, ◌*◌, ◌^◌, ◌≤◌}
use Rattle.sums.specs.Plain.{squared}
use Rattle.fixed.specs.Lists.{at}
use Rattle.open_loop_correlation.proofs.energy.Given as goal

abbrev pub invariant-loop-word : goal.invariant-loop-word
invariant-loop-word l = (l.sum ≡ squared (at l.word-items) l.word-index) × (l.sum ≤ l.word-index * 2 ^ 30)
