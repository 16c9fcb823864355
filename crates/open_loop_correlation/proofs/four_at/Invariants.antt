use Rattle.std.proofs.Common.{◌≡◌, ◌+◌, ◌<◌, length, pos}
use Rattle.fixed.specs.Lists.{between}
use Rattle.fixed.proofs.Lists.{Filled}
use Rattle.open_loop_correlation.proofs.Lags.{grown}
use Rattle.open_loop_correlation.proofs.four_at.Given as goal

abbrev pub invariant-loop-i : goal.invariant-loop-i
invariant-loop-i l = (length l.sums ≡ 4) × Filled (grown l.words l.lag l.i) (pos 0) 4 l.sums

-- the first n sums have the product of place i
abbrev pub invariant-loop-n : goal.invariant-loop-n
invariant-loop-n l = (l.i < 80) × (length l.sums ≡ 4) × Filled (between (grown l.words l.lag (l.i + 1)) (grown l.words l.lag l.i) 0 l.n) (pos 0) 4 l.sums
