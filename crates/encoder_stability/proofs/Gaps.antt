-- The first of some gaps, and the rest.
use mathlib.Core.Path.{◌≡◌}
use mathlib.Core.Bool.{◌||◌}
use mathlib.Core.List.{List}
use Prim.Native.Nat.{ℕ, suc, ◌+◌, ◌-◌, ◌<◌}
use native.Mathlib.Omega.{arith}
use lib.IntN.{ℤ}
use lib.Signed.{lt_z}
use Rattle.encoder_stability.specs.Watch.{gap, any_gap_below}

pub next_gap : (bound : ℤ) (xs : List ℤ) (i end : ℕ) → i < end →
    any_gap_below bound xs i (end - i) ≡ (lt_z (gap xs i) bound || any_gap_below bound xs (i + 1) (end - (i + 1)))
next_gap bound xs i end h = let e : end - i ≡ suc (end - (i + 1)) = omega (arith, h) in
    let n : suc i ≡ i + 1 = omega arith in
    rw (e, n)
