-- Products by a word that is not -32768: nothing is clipped.
use mathlib.Core.Path.{◌≡◌, sym, ap, ◌∙◌}
use Prim.Native.Nat.{◌*◌, ◌^◌, ◌<◌, ◌≤◌}
use native.Mathlib.Nat.{mul-le-mul}
use native.Mathlib.Omega.{arith}
use lib.IntN.{ℤ, pos, negsuc, nat_abs, ◌+ℤ◌, ◌*ℤ◌, *ℤ-one, one}
use lib.Signed.{shr_z}
use mir.Syntax.{w16, w32}
use mir.Val.{SFits}
use Rattle.fixed.specs.Clip.{clip}
use Rattle.fixed.specs.Operators.{L_add, L_mult, L_mac, mult}
use Rattle.fixed.proofs.Bounds.{abs_add, abs_mul, abs_fits, fits_abs}
use Rattle.fixed.proofs.Clips.{clip_id}
use Rattle.sums.proofs.Plain.{double_add, unclipped, plain_mult}

-- ---- the Q15 product
shr_below : (z : ℤ) → nat_abs z ≤ 32767 * 32768 → nat_abs (shr_z z 32768) ≤ 32767
shr_below (pos n) h = omega arith
shr_below (negsuc n) h = omega arith

module _ (a b : ℤ) (h : nat_abs a * nat_abs b ≤ 32767 * 32768) where
  pub q15_small : nat_abs (shr_z (a *ℤ b) 32768) ≤ 32767
  q15_small = shr_below (a *ℤ b) (omega (arith, abs_mul a b))

  pub q15_fits : SFits w16 (shr_z (a *ℤ b) 32768)
  q15_fits = fits_abs w16 (shr_z (a *ℤ b) 32768) (omega (arith, q15_small))

  pub q15_is : shr_z (a *ℤ b) 32768 ≡ mult a b
  unfolding mult
  q15_is = sym (clip_id 15 (shr_z (a *ℤ b) 32768) q15_fits.sfits)

  pub mult_small : nat_abs (mult a b) ≤ 32767
  mult_small = rw (← q15_is) q15_small

-- of a word and one that is not -32768, in either order
pub below_left : (a b : ℤ) → nat_abs a ≤ 32767 → SFits w16 b → nat_abs a * nat_abs b ≤ 32767 * 32768
below_left a b h f = mul-le-mul h (abs_fits f)

pub below_right : (a b : ℤ) → SFits w16 a → nat_abs b ≤ 32767 → nat_abs a * nat_abs b ≤ 32767 * 32768
below_right a b f h = omega (arith, mul-le-mul (abs_fits f) h)

-- ---- the product by the two halves of a long, high and low: half of it
abbrev pub half_term : ℤ → ℤ → ℤ → ℤ
half_term h l n = h *ℤ n +ℤ shr_z (l *ℤ n) 32768

module _ (h l n : ℤ) (fh : SFits w16 h) (fl : SFits w16 l) (s : nat_abs n ≤ 32767) where
  high_below : nat_abs (h *ℤ n) ≤ 32767 * 32768
  high_below = omega (arith, abs_mul h n, below_right h n fh s)

  low_below : nat_abs l * nat_abs n ≤ 32767 * 32768
  low_below = below_right l n fl s

  half_below : nat_abs (half_term h l n) < 2 ^ 30
  half_below = omega (arith, abs_add (h *ℤ n) (shr_z (l *ℤ n) 32768), high_below, q15_small l n low_below)

  pub half_fits : SFits w32 (half_term h l n)
  half_fits = fits_abs w32 (half_term h l n) (omega (arith, half_below))

  pub term_fits : SFits w32 (pos 2 *ℤ half_term h l n)
  term_fits = fits_abs w32 (pos 2 *ℤ half_term h l n) (omega (arith, half_below, abs_mul (pos 2) (half_term h l n)))

  pub term_is : pos 2 *ℤ half_term h l n ≡ L_mac (L_mult h n) (mult l n) (pos 1)
  unfolding L_mac L_add one
  term_is =
      let f : ℤ = shr_z (l *ℤ n) 32768 in
      let e : L_mult (mult l n) (pos 1) ≡ pos 2 *ℤ f =
      ap (λ (z : ℤ). L_mult z (pos 1)) (sym (q15_is l n low_below))
      ∙ plain_mult f (pos 1) (omega (arith, abs_mul f (pos 1), q15_small l n low_below))
      ∙ ap (λ (z : ℤ). pos 2 *ℤ z) (*ℤ-one f)
      in
      sym
      (ap (λ (z : ℤ). clip 31 (z +ℤ L_mult (mult l n) (pos 1))) (plain_mult h n (omega (arith, high_below)))
      ∙ ap (λ (z : ℤ). clip 31 (pos 2 *ℤ (h *ℤ n) +ℤ z)) e
      ∙ ap (clip 31) (sym (double_add (h *ℤ n) f))
      ∙ unclipped (half_term h l n) half_below)
