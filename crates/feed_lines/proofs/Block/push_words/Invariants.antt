use Rattle.std.proofs.Common.{◌+◌, ◌*◌, ◌≤◌}
use Rattle.feed_lines.proofs.Block.push_words.Given as goal

-- a word takes at most 22 bytes
abbrev pub invariant-loop-word : goal.invariant-loop-word
invariant-loop-word l = l.self.filled ≤ l.initial.self.filled + 22 * l.word-index
