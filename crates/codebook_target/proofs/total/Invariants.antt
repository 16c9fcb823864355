use Rattle.std.proofs.Common.{◌≡◌, pos, negsuc}
use Rattle.fixed.specs.Operators.{L_shl}
use Rattle.fixed.specs.Lists.{L_sum}
use Rattle.codebook_target.specs.Targets.{greatest}
use Rattle.codebook_target.proofs.total.Given as goal

abbrev pub invariant-loop-track : goal.invariant-loop-track
invariant-loop-track l = l.sum ≡ L_sum (pos 5) (λ t. L_shl (greatest l.raw t 8) (negsuc 0)) l.track
