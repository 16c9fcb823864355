use Rattle.std.proofs.Common.{◌≡◌}
use Rattle.pitch_choice.specs.Choices.{interpolated_to}
use Rattle.pitch_choice.proofs.interpolated.Given as goal

abbrev pub invariant-loop-i : goal.invariant-loop-i
invariant-loop-i l = l.sum ≡ interpolated_to l.fn.correlation l.fn.place l.fn.phase l.i
