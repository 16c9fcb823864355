use Rattle.std.proofs.Common.{◌≡◌, ◌+◌, ◌-◌}
use Rattle.encoder_stability.specs.Watch.{any_gap_below}
use Rattle.encoder_stability.proofs.any_gap_below.Given as goal

-- the gaps before i are not below
abbrev pub invariant-loop-i : goal.invariant-loop-i
invariant-loop-i l = any_gap_below l.bound l.lsp l.first l.count ≡ any_gap_below l.bound l.lsp l.i (l.first + l.count - l.i)
