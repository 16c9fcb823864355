use Rattle.std.proofs.Common.{◌≤◌, ◌*◌, ◌^◌, min, pos}
use Rattle.sums.proofs.Walks.{Carried}
use Rattle.sums.proofs.energy_and_sum40.Given as goal

-- the squares, which doubled are held where a long ends, and the sum itself
abbrev pub invariant-loop-i : goal.invariant-loop-i
invariant-loop-i l = (l.energy ≤ l.i * 2 ^ 30) × Carried l.x l.y l.i (pos (min (2 * l.energy) 2147483647)) l.sum
