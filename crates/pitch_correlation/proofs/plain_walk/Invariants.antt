use Rattle.std.proofs.Common.{pos, ◌*ℤ◌}
use Rattle.sums.proofs.Walks.{Carried}
use Rattle.pitch_correlation.proofs.plain_walk.Given as goal

-- half of either sum
abbrev pub invariant-loop-i : goal.invariant-loop-i
invariant-loop-i l = Carried l.filtered l.target l.i (pos 2 *ℤ l.energy) (pos 2 *ℤ l.sum)
