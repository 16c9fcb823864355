use Rattle.std.proofs.Common.{◌∙◌, arith}
use lib.IntN.{pos}
use lib.ListN.{length}
use borrow.Author.Tests.{le-leb, lt-ltb}
use Rattle.fixed.specs.Lists.{at}
use Rattle.fixed.proofs.Lists.{filled_all}
use Rattle.feed.specs.Words.{swapped}
use Rattle.feed.proofs.swap_all.Goals as goal

pub returns : goal.returns
returns c =
    let old = c.args.list.now in
    filled_all (λ k. swapped (at old k)) (pos 0) (length old) c.loop-word.word-items c.loop-word.invariant.0
    (λ k l. c.loop-word.invariant.1 k l ∙ rw (le-leb 0 k (omega arith), lt-ltb k c.loop-word.word-index (omega arith)))
