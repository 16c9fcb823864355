use Prim.Native.Nat.{◌-◌}
use Rattle.fixed.specs.Lists.{at}
use Rattle.fixed.proofs.Lists.{zeros_behind}
use Rattle.sums.proofs.reversed.Goals as goal

pub returns : goal.returns
returns c = rw (c.copy_from_slice.ensures.after, c.reversed40.ensures) (zeros_behind (λ j. at c.args.impulse.now (39 - j)) 40 40)
