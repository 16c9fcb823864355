use Rattle.std.proofs.Common.{◌≡◌, ◌<◌}
use Rattle.codebook_target.specs.Starts.{dropped}
use Rattle.codebook_target.proofs.starts.Given as goal

abbrev pub invariant-loop-n : goal.invariant-loop-n
invariant-loop-n l = (l.place < 40) × (l.left ≡ (dropped l.magnitudes l.n).words) × (l.place ≡ (dropped l.magnitudes l.n).last)
