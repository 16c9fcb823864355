use Rattle.std.proofs.Common.{◌≡◌}
use Rattle.codebook_target.specs.Targets.{greatest}
use Rattle.codebook_target.proofs.greatest.Given as goal

abbrev pub invariant-loop-n : goal.invariant-loop-n
invariant-loop-n l = l.held ≡ greatest l.raw l.track l.n
