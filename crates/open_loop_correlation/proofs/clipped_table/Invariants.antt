use Rattle.std.proofs.Common.{◌≡◌, ◌%◌, ◌≤◌}
use Rattle.open_loop_correlation.proofs.Lags.{Placed}
use Rattle.open_loop_correlation.proofs.clipped_table.Given as goal

abbrev pub invariant-loop-lag : goal.invariant-loop-lag
invariant-loop-lag l = (20 ≤ l.lag) × (l.lag ≤ 144) × (l.lag % 4 ≡ 0) × Placed l.words l.lag l.table
