use Prim.Native.Nat.{◌+◌}
use Rattle.fixed.proofs.Lists.{Filling}
use Rattle.filters.specs.Filters.{weighted_at}
use Rattle.filters.proofs.weight.Given as goal

abbrev pub invariant-loop-i : goal.invariant-loop-i
invariant-loop-i l = Filling (weighted_at l.coefficients l.factors) 11 (l.i + 1) l.weighted
