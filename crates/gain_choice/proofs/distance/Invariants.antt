use Rattle.std.proofs.Common.{◌≡◌, pos}
use Rattle.fixed.specs.Operators.{Mpy_32_16}
use Rattle.fixed.specs.Lists.{at, L_sum}
use Rattle.gain_choice.proofs.distance.Given as goal

abbrev pub invariant-loop-k : goal.invariant-loop-k
invariant-loop-k l = l.sum ≡ L_sum (pos 0) (λ k. Mpy_32_16 (at l.weights k) (at l.products k)) l.k
