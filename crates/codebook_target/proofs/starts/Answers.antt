use Rattle.std.proofs.Common.{◌/◌, ◌<◌, arith, add-one}
use Rattle.codebook_target.specs.Starts.{without, drop_one, dropped}
use Rattle.codebook_target.proofs.Starting.{least_lt}
use Rattle.codebook_target.proofs.starts.Goals.{After-least-place}
use Rattle.codebook_target.proofs.starts.Goals as goal

-- the place dropped next
found : (c : After-least-place) → c.least-place.result < 40
found c =
    rw c.least-place.ensures (least_lt c.loop-n.left c.loop-n.place (c.loop-n.n / 4) 8 c.loop-n.invariant.0 (omega arith) (omega arith))

pub offset_bounds-left-place : goal.offset_bounds-left-place
offset_bounds-left-place c = omega (arith, found c)

pub array_set_of-left : goal.array_set_of-left
array_set_of-left c = omega (arith, found c)

pub loop-n-preserved : goal.loop-n-preserved
unfolding dropped drop_one without
loop-n-preserved c =
    let n = c.loop-n.n in
    (found c, rw (add-one n, ← c.loop-n.invariant.1, ← c.loop-n.invariant.2, c.least-place.ensures), rw (add-one n, ← c.loop-n.invariant.1, ← c.loop-n.invariant.2, c.least-place.ensures))
