use Prim.Native.Nat.{◌-◌}
use lib.IntN.{pos}
use borrow.Author.Rules.{rules}
use Rattle.fixed.specs.Lists.{at}
use Rattle.fixed.proofs.Made.{made}
use Rattle.sums.proofs.reversed40.Goals as goal

pub returns : goal.returns
returns c = made _ (pos 0) (λ k. at c.args.list.now (39 - k)) 40 _ (λ k r f' l h. search rules) _ c.from_fn.ensures.items
