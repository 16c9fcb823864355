use Rattle.std.proofs.Common.{◌≡◌, ◌-◌, length, pos}
use Rattle.fixed.specs.Lists.{at, between}
use Rattle.fixed.proofs.Lists.{Filled}
use Rattle.pitch_correlation.proofs.moved.Given as goal

abbrev pub invariant-loop-j : goal.invariant-loop-j
invariant-loop-j l = (length l.words ≡ 40) × Filled (between (λ k. at l.filtered (k - 1)) (λ k. pos 0) 1 l.j) (pos 0) 40 l.words
