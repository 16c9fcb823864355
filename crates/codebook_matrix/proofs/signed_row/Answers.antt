use lib.IntN.{pos}
use borrow.Author.Rules.{rules}
use Rattle.fixed.specs.Operators.{mult}
use Rattle.fixed.specs.Lists.{at}
use Rattle.fixed.proofs.Made.{made}
use Rattle.codebook_matrix.proofs.signed_row.Goals as goal

pub returns : goal.returns
returns c =
    let ss = c.args.signs.words.now in
    made _ (pos 0) (λ k. mult (at c.args.values.now k) (mult (at ss k) (at ss c.args.j))) 40 _ (λ k r f' l h. search rules) _ c.from_fn.ensures.items
