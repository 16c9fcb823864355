-- Where every product of two lists is at most a fortieth of 2 ^ 30, no step of their sum is clipped: the sum is the plain one, and nothing overflows.
use mathlib.Core.Path.{◌≡◌, refl, sym, ap, ◌∙◌}
use mathlib.Core.Bool.{false}
use mathlib.Core.List.{List}
use Prim.Native.Nat.{ℕ, zero, suc, ◌*◌, ◌<◌, ◌≤◌}
use native.Mathlib.Omega.{arith}
use lib.IntN.{ℤ, pos, nat_abs, ◌+ℤ◌, ◌*ℤ◌, +ℤ_assoc, +ℤ_comm}
use mir.Syntax.{w32}
use mir.Val.{SFits}
use Rattle.fixed.specs.Operators.{L_add, L_mult, L_mac_overflow}
use Rattle.fixed.specs.Lists.{at, L_sum}
use Rattle.fixed.proofs.Bounds.{abs_add, abs_mul, fits_abs}
use Rattle.fixed.proofs.Clips.{clip_id}
use Rattle.compound.proofs.Overflows.{past_end}
use Rattle.sums.proofs.Plain.{double_add, plain_mult}
use Rattle.sums.specs.Plain.{plain}
use Rattle.gain_sums.specs.Sums.{sum, overflow, Quiet}

module _ (xs ys : List ℤ) where
  -- half the sum of i products
  abbrev pub half : ℕ → ℤ
  half i = plain (at xs) (at ys) i

  -- and the sum
  abbrev pub whole : ℕ → ℤ
  whole i = pos 2 *ℤ half i +ℤ pos 1

  module _ (q : Quiet xs ys) where
    half_below : (i : ℕ) → i ≤ 40 → nat_abs (half i) ≤ i * 26843545
    unfolding plain
    half_below zero h = omega arith
    half_below (suc n) h =
        omega (arith, half_below n (omega arith), q n (omega arith), abs_add (half n) (at xs n *ℤ at ys n), abs_mul (at xs n) (at ys n))

    pub half_fits : (i : ℕ) → i ≤ 40 → SFits w32 (half i)
    half_fits i h = fits_abs w32 (half i) (omega (arith, half_below i h))

    pub twice_fits : (i : ℕ) → i ≤ 40 → SFits w32 (pos 2 *ℤ half i)
    twice_fits i h = fits_abs w32 (pos 2 *ℤ half i) (omega (arith, half_below i h, abs_mul (pos 2) (half i)))

    pub whole_fits : (i : ℕ) → i ≤ 40 → SFits w32 (whole i)
    whole_fits i h = fits_abs w32 (whole i) (omega (arith, half_below i h, abs_mul (pos 2) (half i), abs_add (pos 2 *ℤ half i) (pos 1)))

    -- one product more
    product_is : (n : ℕ) → n < 40 → L_mult (at xs n) (at ys n) ≡ pos 2 *ℤ (at xs n *ℤ at ys n)
    product_is n h = plain_mult (at xs n) (at ys n) (omega (arith, q n h, abs_mul (at xs n) (at ys n)))

    whole_more : (n : ℕ) → whole n +ℤ pos 2 *ℤ (at xs n *ℤ at ys n) ≡ whole (suc n)
    unfolding plain
    whole_more n =
        let a = pos 2 *ℤ half n in
        let b = pos 2 *ℤ (at xs n *ℤ at ys n) in
        +ℤ_assoc a (pos 1) b ∙ ap (λ (z : ℤ). a +ℤ z) (+ℤ_comm (pos 1) b) ∙ sym (+ℤ_assoc a b (pos 1))
        ∙ ap (λ (z : ℤ). z +ℤ pos 1) (sym (double_add (half n) (at xs n *ℤ at ys n)))

    pub sum_is : (i : ℕ) → i ≤ 40 → sum xs ys i ≡ whole i
    unfolding sum L_sum L_add plain
    sum_is zero h = refl
    sum_is (suc n) h =
        rw (sum_is n (omega arith), product_is n h, whole_more n) (clip_id 31 (whole (suc n)) (whole_fits (suc n) h).sfits)

    pub no_overflow : (i : ℕ) → i ≤ 40 → overflow xs ys i ≡ false
    unfolding overflow L_mac_overflow
    no_overflow zero h = refl
    no_overflow (suc n) h =
        let p : ℤ = at xs n *ℤ at ys n in
        let f : SFits w32 (pos 2 *ℤ p) = fits_abs w32 (pos 2 *ℤ p) (omega (arith, q n h, abs_mul (at xs n) (at ys n), abs_mul (pos 2) p)) in
        rw (no_overflow n (omega arith), ← (past_end (pos 2 *ℤ p) false f), sum_is n (omega arith), product_is n h, whole_more n) (sym (past_end (whole (suc n)) false (whole_fits (suc n) h)))
