use mathlib.Core.Path.{◌≡◌, refl}
use Prim.Native.Nat.{ℕ, zero, suc, ◌+◌, ◌-◌, ◌/◌, ◌%◌, ◌^◌, ◌≤◌}
use native.Mathlib.Omega.{arith}
use Rattle.logarithm.specs.Powers.{shr_r}
use Rattle.fixed.proofs.Shifts.{half_le}
use Rattle.logarithm.proofs.rounded_shift.Goals as goal

whole : (v n : ℕ) → n ≡ 0 → v ≡ shr_r v n
unfolding shr_r
whole v n e = rw e

halves : (v n : ℕ) → (n ≡ 0 → ⊥) → v / 2 ^ n ≤ v / 2
halves v zero h = absurd (h refl)
halves v (suc n) h = half_le v n

part : (v n : ℕ) → (n ≡ 0 → ⊥) → v / 2 ^ n + v / 2 ^ (n - 1) % 2 ≡ shr_r v n
unfolding shr_r
part v zero h = absurd (h refl)
part v (suc n) h = let e : suc n - 1 ≡ n = omega arith in rw e

pub returns-then-n-eq0 : goal.returns-then-n-eq0
returns-then-n-eq0 c = whole c.args.v c.args.n c.if-n-eq0.true

pub overflow_add-result : goal.overflow_add-result
overflow_add-result c = record { fits = omega (arith, halves c.args.v c.args.n c.if-n-eq0.false) }

pub returns : goal.returns
returns c = part c.args.v c.args.n c.if-n-eq0.false
