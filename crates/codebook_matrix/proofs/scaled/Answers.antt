use lib.IntN.{pos}
use borrow.Author.Rules.{rules}
use Rattle.fixed.specs.Operators.{L_mult, L_shl, round}
use Rattle.fixed.specs.Lists.{at}
use Rattle.fixed.proofs.Made.{made}
use Rattle.codebook_matrix.specs.Matrices.{scaled_by}
use Rattle.codebook_matrix.proofs.scaled.Goals as goal

pub returns : goal.returns
unfolding scaled_by
returns c = made _ (pos 0) (λ k. round (L_shl (L_mult (at c.args.impulse.now k) c.args.gain) (pos 9))) 40 _ (λ k r f' l h. search rules) _ c.from_fn.ensures.items
