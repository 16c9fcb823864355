use mathlib.Core.Path.{◌≡◌, sym}
use native.Mathlib.Omega.{arith}
use Rattle.gain_sums.proofs.Squares.{quiet_squares}
use Rattle.gain_sums.proofs.clipped_squares.Goals as goal

pub returns : goal.returns
returns c =
    let e : c.loop-i.i ≡ 40 = omega arith in
    sym (quiet_squares c.args.words.now 40 (rw (c.loop-i.invariant.squares_are, e) at c.loop-i.invariant.below))
