use Rattle.std.proofs.Common.{◌≡◌, ◌+◌}
use Rattle.gain_sums.specs.Sums.{clips as clips_of}
use Rattle.gain_sums.proofs.clipped_from.Given as goal

abbrev pub invariant-loop-word : goal.invariant-loop-word
invariant-loop-word l = l.clips ≡ clips_of l.words l.words (l.fn.first + l.word-index)
