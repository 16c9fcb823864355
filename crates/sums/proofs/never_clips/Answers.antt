use Prim.Native.Nat.{◌*◌}
use borrow.Author.Tests.{ltb-true}
use Rattle.fixed.specs.Lists.{at}
use Rattle.sums.proofs.Reaches.{by_first, by_second}
use Rattle.sums.proofs.never_clips.Goals as goal

pub returns-then-peak-reach-lt-ROOM : goal.returns-then-peak-reach-lt-ROOM
returns-then-peak-reach-lt-ROOM c e n l =
    by_first (at c.args.input.now) (at c.args.impulse.now) n l (rw (← c.peak.ensures, ← c.reach.ensures) c.if-peak-reach-lt-ROOM.true)

pub returns : goal.returns
returns c e n l =
    by_second (at c.args.input.now) (at c.args.impulse.now) n l (rw (← c.peak-2.ensures, ← c.reach-2.ensures) (ltb-true (c.peak-2.result * c.reach-2.result) 1073741824 e))
