use Rattle.open_loop_correlation.proofs.Lags.{Placed}
use Rattle.open_loop_correlation.proofs.plain_table.Given as goal

abbrev pub invariant-loop-lag : goal.invariant-loop-lag
invariant-loop-lag l = Placed l.words l.lag l.table
