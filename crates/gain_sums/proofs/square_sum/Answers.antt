use Prim.Native.Nat.{◌+◌, ◌*◌, min}
use native.Mathlib.Omega.{arith}
use borrow.Author.Tests.{ltb-true}
use mir.Syntax.{w32}
use Rattle.fixed.specs.Lists.{at}
use Rattle.fixed.proofs.Bounds.{got}
use Rattle.sums.specs.Plain.{squared}
use Rattle.sums.proofs.Sums.{energy_from}
use Rattle.gain_sums.specs.Sums.{sum, counted_sum}
use Rattle.gain_sums.proofs.Counts.{told_flagged}
use Rattle.gain_sums.proofs.Squares.{quiet_squares}
use Rattle.gain_sums.proofs.square_sum.Goals as goal

pub returns-then-value-lt-GREATEST-clause-counted : goal.returns-then-value-lt-GREATEST-clause-counted
unfolding counted_sum sum
returns-then-value-lt-GREATEST-clause-counted c =
    let xs = c.args.words.now in
    let s = 2 * squared (at xs) 40 in
    let v = got w32 c.square_value-value.type_inv c.square_value-value.ensures in
    let t = rw (v, energy_from 1 xs 40 (omega arith)) at c.if-value-lt-GREATEST.true in
    rw (v, quiet_squares xs 40 (omega (arith, ltb-true (min (1 + s) 2147483647) 2147483647 t)))

pub returns-then-value-lt-GREATEST-clause-flagged : goal.returns-then-value-lt-GREATEST-clause-flagged
returns-then-value-lt-GREATEST-clause-flagged c =
    told_flagged c.args.words.now c.args.words.now 40 _ (returns-then-value-lt-GREATEST-clause-counted c)
