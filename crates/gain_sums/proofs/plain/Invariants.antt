use Rattle.std.proofs.Common.{◌≡◌}
use Rattle.gain_sums.specs.Sums.{Quiet}
use Rattle.gain_sums.proofs.Plains.{half as half_of}
use Rattle.gain_sums.proofs.plain.Given as goal

abbrev pub invariant-loop-i : goal.invariant-loop-i
invariant-loop-i l = record { quiet : Quiet l.left l.right; half_is : l.half ≡ half_of l.left l.right l.i }
