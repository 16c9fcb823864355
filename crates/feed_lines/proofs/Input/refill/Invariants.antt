use Rattle.std.proofs.Common.{◌-◌}
use Rattle.feed_lines.proofs.Input.refill.Given as goal

abbrev pub decreases-loop-self : goal.decreases-loop-self
decreases-loop-self g l = 65536 - l.self.len
