use Rattle.std.proofs.Common.{◌≡◌}
use Rattle.codebook_choice.specs.Choices.{fourth_at, best_step}
use Rattle.codebook_choice.proofs.Lists.clipped_fourth.Given as goal

abbrev pub invariant-loop-n : goal.invariant-loop-n
invariant-loop-n l = l.held ≡ best_step (fourth_at l.self.correlation.now l.self.table.now l.first l.second l.two) l.track l.n
