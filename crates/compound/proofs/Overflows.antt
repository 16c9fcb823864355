-- The standard's Overflow as the code finds it: whether the sum fits, and one test of the product.
use mathlib.Core.Path.{◌≡◌, refl, sym, ◌∙◌}
use mathlib.Core.Bool.{Bool, true, false, ◌||◌}
use Prim.Native.Nat.{ℕ, zero, suc, ◌-◌, ◌*◌, ◌^◌, ◌<◌, ◌≤◌}
use native.Mathlib.Omega.{arith}
use lib.Dec.{ltb, leb}
use lib.IntN.{ℤ, pos, negsuc, nat_abs, ◌*ℤ◌}
use lib.Pow.{pow_pos}
use lib.Signed.{mag, lt_z}
use mir.Syntax.{w32}
use mir.Val.{SFits}
use borrow.Author.Tests.{ltb-true, ltb-false, leb-false, le-leb, lt-leb}
use Rattle.std.specs.Bool.{FalseIff}
use Rattle.fixed.specs.Operators.{beyond}
use Rattle.fixed.proofs.Signs.{mag_neg}

-- a sum that does not fit
pub past_end : (z : ℤ) (t : Bool) → FalseIff t (SFits w32 z) → t ≡ beyond 31 z
past_end z true unfit = go (leb (2 ^ 31) (mag z)) refl
  where
    go : (b : Bool) → leb (2 ^ 31) (mag z) ≡ b → true ≡ b
    go true e = refl
    go false e = absurd (unfit (record { sfits = leb-false (2 ^ 31) (mag z) e }))
past_end z false f = sym (lt-leb (2 ^ 31) (mag z) f.sfits)

or_false : (b : Bool) → b || false ≡ b
or_false true = refl
or_false false = refl

-- a test of one less is a test of at least
past : (m n : ℕ) → zero < m → ltb (m - 1) n ≡ leb m n
past m n h = go (ltb (m - 1) n) refl
  where
    go : (t : Bool) → ltb (m - 1) n ≡ t → t ≡ leb m n
    go true q = sym (le-leb m n (omega (arith, ltb-true (m - 1) n q)))
    go false q = sym (lt-leb m n (omega (arith, ltb-false (m - 1) n q)))

-- the two tests of a wider sum, for every width
pub past_ends : (k : ℕ) (z : ℤ) → lt_z (pos (2 ^ k - 1)) z || lt_z z (negsuc (2 ^ k - 1)) ≡ beyond k z
past_ends k (pos n) = or_false _ ∙ past (2 ^ k) n (pow_pos k)
past_ends k (negsuc n) = past (2 ^ k) n (pow_pos k)

-- twice a product of two words
pub past_product : (z : ℤ) → nat_abs z ≤ 2 ^ 30 → lt_z (pos 1073741823) z ≡ beyond 31 (pos 2 *ℤ z)
past_product (pos n) h = go (ltb 1073741823 n) refl
  where
    go : (t : Bool) → ltb 1073741823 n ≡ t → t ≡ leb (2 ^ 31) (2 * n)
    go true q = sym (le-leb (2 ^ 31) (2 * n) (omega (arith, ltb-true 1073741823 n q)))
    go false q = sym (lt-leb (2 ^ 31) (2 * n) (omega (arith, ltb-false 1073741823 n q)))
past_product (negsuc n) h = sym (lt-leb (2 ^ 31) (mag (pos 2 *ℤ negsuc n)) (omega (arith, mag_neg (2 * suc n))))
