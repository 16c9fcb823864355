use Rattle.std.proofs.Common.{◌≤◌}
use Rattle.codebook_choice.proofs.Tracks.{Held}
use Rattle.codebook_choice.proofs.Lists.best.Given as goal

abbrev pub invariant-loop-n : goal.invariant-loop-n
invariant-loop-n l = record { within : l.found ≤ 8; held : Held l.self.correlation.now l.squares l.energies l.sum l.track-inside.number l.n l.found l.held.square l.held.energy }
