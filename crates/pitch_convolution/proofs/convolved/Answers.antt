use lib.IntN.{pos}
use borrow.Author.Rules.{rules}
use Rattle.fixed.proofs.Lists.{at_tabulate}
use Rattle.fixed.proofs.Made.{made}
use Rattle.sums.specs.Convolutions.{convolution}
use Rattle.pitch_convolution.specs.Filters.{convolved_at, Convolve}
use Rattle.pitch_convolution.proofs.convolved.Goals as goal

pub returns : goal.returns
unfolding Convolve convolved_at
returns c =
    let f = convolution c.args.input.now c.args.impulse.now in
    made _ (pos 0) (convolved_at c.args.input.now c.args.impulse.now) 40 _
    (λ k r f' l h. rw (← at_tabulate f (pos 0) 40 k l, ← c.convolution.ensures) (search rules)) _ c.from_fn.ensures.items
