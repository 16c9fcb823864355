use lib.IntN.{pos}
use borrow.Author.Rules.{rules}
use Rattle.fixed.specs.Operators.{abs_s}
use Rattle.fixed.specs.Lists.{at}
use Rattle.fixed.proofs.Made.{made}
use Rattle.codebook_target.specs.Starts.{magnitudes_of}
use Rattle.codebook_target.proofs.magnitudes.Goals as goal

pub returns : goal.returns
unfolding magnitudes_of
returns c = made _ (pos 0) (λ k. abs_s (at c.args.correlation.now k)) 40 _ (λ k r f' l h. search rules) _ c.from_fn.ensures.items
