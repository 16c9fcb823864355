use Prim.Native.Nat.{◌+◌}
use lib.IntN.{pos}
use borrow.Author.Rules.{rules}
use Rattle.fixed.specs.Lists.{at, part}
use Rattle.fixed.proofs.Made.{made}
use Rattle.synthesis_filter.proofs.put_out.Goals as goal

pub returns : goal.returns
unfolding part
returns c = made _ (pos 0) (λ k. at c.args.samples.now (10 + k)) 40 _ (λ k r f' l h. search rules) _ c.from_fn.ensures.items
