use Rattle.std.proofs.Common.{◌≡◌}
use Rattle.fixed.specs.Lists.{at}
use Rattle.sums.specs.Plain.{peak}
use Rattle.sums.proofs.peak.Given as goal

abbrev pub invariant-loop-word : goal.invariant-loop-word
invariant-loop-word g l = l.most ≡ peak (at l.list) l.word-index
