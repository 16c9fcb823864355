use Rattle.std.proofs.Common.{◌≡◌, ◌<◌, ◌^◌}
use Rattle.fixed.specs.Lists.{at}
use Rattle.sums.specs.Plain.{squared}
use Rattle.gain_sums.proofs.clipped_squares.Given as goal

abbrev pub invariant-loop-i : goal.invariant-loop-i
invariant-loop-i l = record { squares_are : l.squares ≡ squared (at l.words) l.i; below : l.squares < 2 ^ 30 }
