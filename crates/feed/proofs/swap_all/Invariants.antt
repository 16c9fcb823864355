use Rattle.std.proofs.Common.{◌≡◌, length, pos}
use Rattle.fixed.specs.Lists.{at, between}
use Rattle.fixed.proofs.Lists.{Filled}
use Rattle.feed.specs.Words.{swapped}
use Rattle.feed.proofs.swap_all.Given as goal

-- the words before the next are exchanged, the others as they were
abbrev pub invariant-loop-word : goal.invariant-loop-word
invariant-loop-word l = (length l.word-items ≡ length l.fn.list)
    × Filled (between (λ k. swapped (at l.fn.list k)) (at l.fn.list) 0 l.word-index) (pos 0) (length l.fn.list) l.word-items
