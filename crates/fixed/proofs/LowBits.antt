-- The lowest bit of a long is in neither of its halves, so `& !1` before a product by halves changes nothing.
use mathlib.Core.Path.{◌≡◌, sym, ap, ◌∙◌}
use Prim.Native.Nat.{ℕ, suc, ◌+◌, ◌*◌, ◌/◌}
use native.Mathlib.Nat.{div-div-eq-div-mul}
use native.Mathlib.Omega.{arith}
use lib.IntN.{ℤ, pos, negsuc, ◌-ℤ◌, ◌*ℤ◌}
use lib.Signed.{shr_z}
use Rattle.fixed.specs.Operators.{extract_h, low_half, even_bits, Mpy_32}
use Rattle.fixed.proofs.Signs.{neg_pos}

-- a shift by one place or more does not see it
shr_even : (q : ℕ) (z : ℤ) → shr_z (even_bits z) (2 * q) ≡ shr_z z (2 * q)
unfolding even_bits
shr_even q (pos n) = ap pos (sym (div-div-eq-div-mul (n / 2 * 2) 2 q) ∙ ap (λ (k : ℕ). k / q) {x = n / 2 * 2 / 2} {y = n / 2} (omega arith) ∙ div-div-eq-div-mul n 2 q)
shr_even q (negsuc n) =
    ap (λ (z : ℤ). shr_z z (2 * q)) (neg_pos (suc (n / 2) * 2) (n / 2 * 2 + 1) (omega arith))
    ∙ ap negsuc (sym (div-div-eq-div-mul (n / 2 * 2 + 1) 2 q) ∙ ap (λ (k : ℕ). k / q) {x = (n / 2 * 2 + 1) / 2} {y = n / 2} (omega arith) ∙ div-div-eq-div-mul n 2 q)

high_even : (z : ℤ) → extract_h (even_bits z) ≡ extract_h z
unfolding extract_h
high_even z = shr_even 32768 z

low_even : (z : ℤ) → low_half (even_bits z) ≡ low_half z
unfolding low_half
low_even z = rw (high_even z) (ap (λ (y : ℤ). y -ℤ extract_h z *ℤ pos 32768) (shr_even 1 z))

pub even_product : (a b : ℤ) → Mpy_32 (even_bits a) (even_bits b) ≡ Mpy_32 a b
unfolding Mpy_32
even_product a b = rw (high_even a, high_even b, low_even a, low_even b)
