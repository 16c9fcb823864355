use Rattle.std.proofs.Common.{◌≡◌, ◌≤◌, ◌<◌, ◌+◌, ◌-◌, suc, length, pos}
use Rattle.fixed.specs.Lists.{between}
use Rattle.fixed.proofs.Lists.{Filled}
use Rattle.sums.proofs.Rows.{taken, term}
use Rattle.sums.proofs.clipped_sums.Given as goal

abbrev pub invariant-loop-n : goal.invariant-loop-n
invariant-loop-n l =
    (l.i < 40) × (l.i ≤ l.n) × (l.n ≤ 40) × (length l.sums ≡ 40)
    × Filled (between (taken (term l.input l.impulse) suc (l.i + 1)) (taken (term l.input l.impulse) suc l.i) l.i l.n) (pos 0) 40 l.sums

abbrev pub decreases-loop-n : goal.decreases-loop-n
decreases-loop-n l = 40 - l.n

abbrev pub invariant-loop-i : goal.invariant-loop-i
invariant-loop-i l = (l.i ≤ 40) × (length l.sums ≡ 40) × Filled (taken (term l.input l.impulse) suc l.i) (pos 0) 40 l.sums

abbrev pub decreases-loop-i : goal.decreases-loop-i
decreases-loop-i l = 40 - l.i
