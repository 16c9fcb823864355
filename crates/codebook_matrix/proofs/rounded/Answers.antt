use Prim.Native.Nat.{◌+◌}
use lib.IntN.{pos, ◌*ℤ◌}
use borrow.Author.Rules.{rules}
use Rattle.fixed.specs.Operators.{round}
use Rattle.fixed.specs.Lists.{at}
use Rattle.fixed.proofs.Made.{made}
use Rattle.codebook_matrix.proofs.rounded.Goals as goal

pub returns : goal.returns
returns c = made _ (pos 0) (λ k. round (pos 2 *ℤ at c.args.sums.now (c.args.from + k))) 40 _ (λ k r f' l h. search rules) _ c.from_fn.ensures.items
