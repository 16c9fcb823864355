use mathlib.Core.Path.{◌≡◌, refl, sym, ap, ◌∙◌}
use mathlib.Core.Bool.{true, false}
use Prim.Native.Nat.{zero, suc, ◌*◌, ◌/◌, ◌<◌, min}
use native.Mathlib.Omega.{arith}
use lib.IntN.{ℤ, pos, negsuc, nat_abs}
use lib.Signed.{lt_z}
use mir.Syntax.{w16}
use mir.Facts.{to_z-of_z, to_z_pos}
use borrow.Author.Tests.{ltb-true, ltb-false}
use Rattle.fixed.specs.Operators.{div_s}
use Rattle.fixed.proofs.Clips.{contradiction}
use Rattle.compound.proofs.divide.Goals as goal

-- the definition outside its domain, and in it
below_a : (a b : ℤ) → lt_z a (pos 0) ≡ true → pos 0 ≡ div_s a b
unfolding div_s
below_a (pos a) b e = absurd (omega (arith, ltb-true a 0 e))
below_a (negsuc a) b e = refl

below_b : (a b : ℤ) → lt_z b (pos 1) ≡ true → pos 0 ≡ div_s a b
unfolding div_s
below_b (pos a) (pos zero) e = refl
below_b (pos a) (pos (suc b)) e = absurd (omega (arith, ltb-true (suc b) 1 e))
below_b (pos a) (negsuc b) e = refl
below_b (negsuc a) b e = refl

within : (a b : ℤ) → lt_z a (pos 0) ≡ false → lt_z b (pos 1) ≡ false → pos (min (nat_abs a * 32768 / nat_abs b) 32767) ≡ div_s a b
unfolding div_s
within (negsuc a) b e f = contradiction (sym e)
within (pos a) (pos zero) e f = absurd (omega (arith, ltb-false 0 1 f))
within (pos a) (pos (suc b)) e f = refl
within (pos a) (negsuc b) e f = contradiction (sym f)

pub returns-then-a-lt0 : goal.returns-then-a-lt0
returns-then-a-lt0 c = below_a _ _ (rw (to_z-of_z c.ranges.a) at c.if-a-lt0.true)

pub returns-then-b-lt1 : goal.returns-then-b-lt1
returns-then-b-lt1 c = below_b c.args.a c.args.b (rw (to_z-of_z c.ranges.b) at c.if-b-lt1.true)

pub returns : goal.returns
returns c =
    let h : c.min.result < 32768 = omega (arith, c.min.ensures) in
    to_z_pos w16 h
    ∙ ap pos (rw (c.min.ensures, c.unsigned_abs.ensures.value, c.unsigned_abs-2.ensures.value, to_z-of_z c.ranges.a, to_z-of_z c.ranges.b))
    ∙ within c.args.a c.args.b (rw (to_z-of_z c.ranges.a) at c.if-a-lt0.false) (rw (to_z-of_z c.ranges.b) at c.if-b-lt1.false)
