use Rattle.std.proofs.Common.{◌≡◌}
use Rattle.codebook_target.specs.Starts.{least}
use Rattle.codebook_target.proofs.least.Given as goal

abbrev pub invariant-loop-n : goal.invariant-loop-n
invariant-loop-n l = l.held ≡ least l.left l.last l.track l.n
