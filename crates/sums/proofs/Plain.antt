-- Sums that need no clip: half a sum, s, stands for the long 2 s.
use mathlib.Core.Path.{◌≡◌, sym, ap, ◌∙◌}
use Prim.Native.Nat.{◌+◌, ◌*◌, ◌^◌, ◌<◌}
use native.Mathlib.Omega.{arith}
use lib.IntN.{ℤ, pos, neg_ℤ, nat_abs, ◌+ℤ◌, ◌-ℤ◌, ◌*ℤ◌, +ℤ_assoc, +ℤ_comm, neg_ℤ-+ℤ, suc_ℤ-*ℤ, *ℤ_comm, *ℤ-one, one}
use mir.Syntax.{w32}
use Rattle.fixed.specs.Clip.{clip}
use Rattle.fixed.specs.Operators.{L_sub, L_mult, L_msu}
use Rattle.fixed.proofs.Bounds.{abs_sub, abs_mul, fits_abs}
use Rattle.fixed.proofs.Clips.{clip_id}

-- ---- integers
double : (z : ℤ) → pos 2 *ℤ z ≡ z +ℤ z
unfolding one
double z = suc_ℤ-*ℤ (pos 1) z ∙ ap (λ (y : ℤ). y +ℤ z) (*ℤ_comm (pos 1) z ∙ *ℤ-one z)

pub middle : (a b c d : ℤ) → (a +ℤ b) +ℤ (c +ℤ d) ≡ (a +ℤ c) +ℤ (b +ℤ d)
middle a b c d =
    +ℤ_assoc a b (c +ℤ d)
    ∙ ap (λ (y : ℤ). a +ℤ y) (sym (+ℤ_assoc b c d) ∙ ap (λ (y : ℤ). y +ℤ d) (+ℤ_comm b c) ∙ +ℤ_assoc c b d)
    ∙ sym (+ℤ_assoc a c (b +ℤ d))

-- two differences in either order
pub sub_swap : (a p q : ℤ) → a -ℤ q -ℤ p ≡ a -ℤ p -ℤ q
sub_swap a p q =
    +ℤ_assoc a (neg_ℤ q) (neg_ℤ p) ∙ ap (λ (y : ℤ). a +ℤ y) (+ℤ_comm (neg_ℤ q) (neg_ℤ p)) ∙ sym (+ℤ_assoc a (neg_ℤ p) (neg_ℤ q))

pub double_add : (a b : ℤ) → pos 2 *ℤ (a +ℤ b) ≡ pos 2 *ℤ a +ℤ pos 2 *ℤ b
double_add a b =
    double (a +ℤ b) ∙ middle a b a b ∙ sym (ap (λ (y : ℤ). y +ℤ pos 2 *ℤ b) (double a) ∙ ap (λ (y : ℤ). a +ℤ a +ℤ y) (double b))

double_sub : (a b : ℤ) → pos 2 *ℤ (a -ℤ b) ≡ pos 2 *ℤ a -ℤ pos 2 *ℤ b
double_sub a b =
    double (a -ℤ b) ∙ middle a (neg_ℤ b) a (neg_ℤ b) ∙ ap (λ (y : ℤ). a +ℤ a +ℤ y) (sym (neg_ℤ-+ℤ b b))
    ∙ sym (ap (λ (y : ℤ). y -ℤ pos 2 *ℤ b) (double a) ∙ ap (λ (y : ℤ). a +ℤ a -ℤ y) (double b))

-- ---- longs
-- twice a number below 2 ^ 30 is not clipped
pub unclipped : (z : ℤ) → nat_abs z < 2 ^ 30 → clip 31 (pos 2 *ℤ z) ≡ pos 2 *ℤ z
unclipped z h = clip_id 31 (pos 2 *ℤ z) (fits_abs w32 (pos 2 *ℤ z) (rw (abs_mul (pos 2) z) (omega arith))).sfits

pub plain_mult : (a b : ℤ) → nat_abs (a *ℤ b) < 2 ^ 30 → L_mult a b ≡ pos 2 *ℤ (a *ℤ b)
unfolding L_mult
plain_mult a b h = unclipped (a *ℤ b) h

pub plain_msu : (s a b : ℤ) → nat_abs s + nat_abs a * nat_abs b < 2 ^ 30 → L_msu (pos 2 *ℤ s) a b ≡ pos 2 *ℤ (s -ℤ a *ℤ b)
unfolding L_msu L_sub
plain_msu s a b h =
    let p = abs_mul a b in
    ap (λ (y : ℤ). clip 31 (pos 2 *ℤ s -ℤ y)) (plain_mult a b (omega (arith, p)))
    ∙ ap (clip 31) (sym (double_sub s (a *ℤ b)))
    ∙ unclipped (s -ℤ a *ℤ b) (omega (arith, p, abs_sub s (a *ℤ b)))
