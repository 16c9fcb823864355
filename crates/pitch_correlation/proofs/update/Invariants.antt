use Rattle.std.proofs.Common.{◌≡◌, length, pos}
use Rattle.fixed.specs.Lists.{between}
use Rattle.fixed.proofs.Lists.{Filled}
use Rattle.pitch_correlation.proofs.Filterings.{moved_at, alike_at}
use Rattle.pitch_correlation.proofs.update.Given as goal

abbrev pub invariant-loop-j : goal.invariant-loop-j
invariant-loop-j l =
    (length l.next ≡ 40) × Filled (between (alike_at l.loud l.impulse l.sample l.filtered) (moved_at l.filtered) 0 l.j) (pos 0) 40 l.next
