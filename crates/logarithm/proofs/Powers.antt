-- The table of powers stays below 2 ^ 15, so every power is a long.
use mathlib.Core.Bool.{Bool}
use Prim.Native.Nat.{ℕ, zero, suc, ◌+◌, ◌-◌, ◌*◌, ◌/◌, ◌^◌, ◌<◌, ◌≤◌}
use native.Mathlib.Omega.{arith}
use lib.Dec.{leb, leb→le}
use lib.ListN.{get_or}
use Rattle.fixed.specs.Line.{table_line}
use Rattle.fixed.proofs.Lines.{line_le}
use Rattle.fixed.proofs.Shifts.{half_le}
use Rattle.fixed.proofs.Tables.{at}
use Rattle.logarithm.specs.Powers.{pow2_table, shr_r, power}

shr_r_lt : (v n : ℕ) → v < 2 ^ 31 → shr_r v n < 2 ^ 31
unfolding shr_r
shr_r_lt v zero h = h
shr_r_lt v (suc n) h = omega (arith, half_le v n)

-- the table's rule, by one test over the whole of it
word : ℕ → ℕ → Bool
word k x = leb x 32767

entry_le : (k : ℕ) → k < 33 → get_or pow2_table k 0 ≤ 32767
unfolding word pow2_table
entry_le k h = leb→le (get_or pow2_table k 0) 32767 (at 0 word pow2_table tt k h)

pub power_lt : (e f : ℕ) → f < 32768 → power e f < 2 ^ 31
unfolding power table_line
power_lt e f h =
    let i : ℕ = f * 32768 / 33554432 - 0 in
    shr_r_lt _ (30 - e) (omega (arith, line_le 32767 (get_or pow2_table i 0) (get_or pow2_table (i + 1) 0) (f * 32768) (entry_le i (omega arith)) (entry_le (i + 1) (omega arith))))
