use Rattle.std.proofs.Common.{◌≡◌, ◌-◌, ◌≤◌}
use Rattle.codebook_sharpening.specs.Sharpenings.{sharpened_to}
use Rattle.codebook_sharpening.proofs.sharpened.Given as goal

abbrev pub invariant-loop-place : goal.invariant-loop-place
invariant-loop-place l = (l.place - l.lag ≤ 40 - l.lag) × (l.samples ≡ sharpened_to l.words l.lag l.sharp_q15 (l.place - l.lag))
