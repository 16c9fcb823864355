-- Sums whose terms are not negative: one clip at the end does.
use mathlib.Core.Path.{◌≡◌, refl, ap, ◌∙◌}
use mathlib.Core.List.{List}
use Prim.Native.Nat.{ℕ, zero, suc, ◌+◌, ◌*◌, ◌^◌, ◌<◌, ◌≤◌, min}
use native.Mathlib.Nat.{mul-le-mul}
use native.Mathlib.Omega.{arith}
use lib.IntN.{ℤ, pos, negsuc, nat_abs, ◌*ℤ◌}
use mir.Syntax.{w16}
use mir.Val.{SFits}
use Rattle.fixed.specs.Operators.{L_add, L_mult}
use Rattle.fixed.specs.Lists.{at, L_sum, dot}
use Rattle.fixed.proofs.Bounds.{abs_fits}
use Rattle.sums.specs.Plain.{squared}

pub square_is : (v : ℤ) → v *ℤ v ≡ pos (nat_abs v * nat_abs v)
square_is (pos n) = refl
square_is (negsuc n) = refl

pub square_le : (v : ℤ) → SFits w16 v → nat_abs v * nat_abs v ≤ 2 ^ 30
square_le v f = mul-le-mul (abs_fits f) (abs_fits f)

-- a square more
pub square_more : (a : ℕ) (v : ℤ) → L_add (pos (min a 2147483647)) (L_mult v v) ≡ pos (min (a + 2 * (nat_abs v * nat_abs v)) 2147483647)
unfolding L_add L_mult
square_more a v = rw (square_is v) (ap pos (omega arith))

-- from a start that is not negative either
pub energy_from : (a : ℕ) (xs : List ℤ) (n : ℕ) → a ≤ 2147483647 →
    L_sum (pos a) (λ k. L_mult (at xs k) (at xs k)) n ≡ pos (min (a + 2 * squared (at xs) n) 2147483647)
unfolding L_sum squared
energy_from a xs zero h = ap pos (omega arith)
energy_from a xs (suc n) h = rw (energy_from a xs n h, square_more (a + 2 * squared (at xs) n) (at xs n)) (ap pos (omega arith))

pub energy_is : (xs : List ℤ) (n : ℕ) → dot xs xs n ≡ pos (min (2 * squared (at xs) n) 2147483647)
unfolding dot
energy_is xs n = energy_from 0 xs n (omega arith) ∙ ap pos (omega arith)

-- terms that are equal
pub sum_same : (s : ℤ) (f g : ℕ → ℤ) (n : ℕ) → ((k : ℕ) → k < n → f k ≡ g k) → L_sum s f n ≡ L_sum s g n
unfolding L_sum
sum_same s f g zero e = refl
sum_same s f g (suc n) e = rw (sum_same s f g n (λ k h. e k (omega arith)), e n (omega arith))
