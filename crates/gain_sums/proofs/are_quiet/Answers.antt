use Prim.Native.Nat.{◌≤◌}
use lib.IntN.{nat_abs}
use native.Mathlib.Nat.{mul-le-mul}
use native.Mathlib.Omega.{arith}
use borrow.Author.Tests.{leb-true}
use Rattle.fixed.specs.Lists.{at}
use Rattle.sums.proofs.Reaches.{peak_le}
use Rattle.gain_sums.proofs.are_quiet.Goals as goal

pub returns : goal.returns
returns c e k l =
    let a = c.args in
    let p : nat_abs (at a.left.now k) ≤ c.peak.result = rw c.peak.ensures (peak_le (at a.left.now) 40 k l) in
    let q : nat_abs (at a.right.now k) ≤ c.peak-2.result = rw c.peak-2.ensures (peak_le (at a.right.now) 40 k l) in
    omega (arith, mul-le-mul p q, leb-true)
