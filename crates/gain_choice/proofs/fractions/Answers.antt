use borrow.Author.Rules.{rules}
use lib.IntN.{pos}
use Rattle.fixed.specs.Operators.{mult}
use Rattle.fixed.specs.Lists.{at}
use Rattle.fixed.proofs.Made.{made}
use Rattle.gain_choice.proofs.fractions.Goals as goal

pub returns : goal.returns
returns c = made _ (pos 0) (λ k. mult (at c.args.left.now k) (at c.args.right.now k)) 128 _ (λ k r f' l h. search rules) _ c.from_fn.ensures.items
