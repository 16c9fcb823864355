use lib.IntN.{pos}
use borrow.Author.Rules.{rules}
use Rattle.fixed.specs.Lists.{at}
use Rattle.fixed.proofs.Made.{made}
use Rattle.codebook_target.specs.Starts.{sign_of, signs_of}
use Rattle.codebook_target.proofs.signs.Goals as goal

pub returns : goal.returns
unfolding signs_of
returns c = made _ (pos 0) (λ k. sign_of (at c.args.correlation.now k)) 40 _ (λ k r f' l h. search rules) _ c.from_fn.ensures.items
