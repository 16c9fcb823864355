use Rattle.std.proofs.Common.{◌+◌, ◌*◌, ◌≤◌}
use Rattle.feed_lines.proofs.Block.push_fields.Given as goal

-- a number takes at most 22 bytes
abbrev pub invariant-loop-field : goal.invariant-loop-field
invariant-loop-field g l = l.self.filled ≤ l.initial.self.filled + 22 * l.field-index
