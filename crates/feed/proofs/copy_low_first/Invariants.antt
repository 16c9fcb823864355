use Rattle.std.proofs.Common.{◌≡◌, ℕ, ◌+◌, ◌*◌, ◌<◌, length}
use Rattle.fixed.specs.Lists.{at}
use Rattle.feed.specs.Words.{word_at, swapped}
use Rattle.feed.proofs.copy_low_first.Given as goal

abbrev pub invariant-loop-i : goal.invariant-loop-i
invariant-loop-i l = (length l.list ≡ length l.fn.list) × (l.i-end ≡ length l.fn.list)
    × ((k : ℕ) → k < l.i → swapped (at l.list k) ≡ word_at l.fn.body (l.fn.from + 2 * k))
