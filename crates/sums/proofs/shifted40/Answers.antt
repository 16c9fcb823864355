use Rattle.std.proofs.Common.{rules}
use lib.IntN.{pos}
use Rattle.fixed.specs.Operators.{shl}
use Rattle.fixed.specs.Lists.{at, shifted}
use Rattle.fixed.proofs.Made.{made}
use Rattle.sums.proofs.shifted40.Goals as goal

pub returns : goal.returns
unfolding shifted
returns c = made _ (pos 0) (λ k. shl (at c.args.x.now k) c.args.count) 40 _ (λ k r f' l h. search rules) _ c.from_fn.ensures.items
