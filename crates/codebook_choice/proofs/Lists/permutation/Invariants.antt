use Rattle.std.proofs.Common.{◌≡◌}
use Rattle.codebook_choice.specs.Choices.{permutation}
use Rattle.codebook_choice.proofs.Lists.permutation.Given as goal

abbrev pub invariant-loop-n : goal.invariant-loop-n
invariant-loop-n l = l.best ≡ permutation l.self.correlation.now l.self.table.now l.self.left.now l.a l.fn.b l.fn.c l.d l.fn.held l.n
