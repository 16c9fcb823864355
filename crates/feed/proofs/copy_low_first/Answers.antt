use Rattle.std.proofs.Common.{◌+◌, ◌*◌, ◌∙◌, arith}
use lib.IntN.{pos}
use lib.ListN.{length}
use Rattle.fixed.specs.Lists.{at}
use Rattle.fixed.proofs.Lists.{filled_all, length_tabulate, at_tabulate}
use Rattle.feed.specs.Words.{word_at, words, swapped}
use Rattle.feed.proofs.copy_low_first.Goals as goal

pub returns : goal.returns
unfolding words
returns c =
    let a = c.args in
    let n = length a.list.now in
    filled_all (λ k. word_at a.body.now (a.from + 2 * k)) (pos 0) n _ (length_tabulate (λ k. swapped (at c.loop-i.list k)) (pos 0) n)
    (λ k l. at_tabulate (λ k. swapped (at c.loop-i.list k)) (pos 0) n k l ∙ c.loop-i.invariant.2 k (omega arith))
