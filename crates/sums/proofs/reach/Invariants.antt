use Rattle.std.proofs.Common.{◌≡◌, ◌≤◌, ◌*◌}
use Rattle.fixed.specs.Lists.{at}
use Rattle.sums.specs.Plain.{reach}
use Rattle.sums.proofs.reach.Given as goal

abbrev pub invariant-loop-word : goal.invariant-loop-word
invariant-loop-word l = (l.sum ≤ l.word-index * 65535) × (l.sum ≡ reach (at l.list) l.word-index)
