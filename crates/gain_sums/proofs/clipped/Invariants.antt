use Rattle.std.proofs.Common.{◌≡◌}
use Rattle.gain_sums.specs.Sums.{sum, clips as clips_of}
use Rattle.gain_sums.proofs.clipped.Given as goal

abbrev pub invariant-loop-i : goal.invariant-loop-i
invariant-loop-i l = record { value_is : l.value ≡ sum l.left l.right l.i; clips_are : l.clips ≡ clips_of l.left l.right l.i }
