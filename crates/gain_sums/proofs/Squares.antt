-- Of a sum of squares: no term is negative, so it is clipped from one place on, at every term that is not 0.
use mathlib.Core.Path.{◌≡◌, refl, sym, ap, ◌∙◌}
use mathlib.Core.Bool.{Bool, true, false, cond, not, ◌&&◌, ◌||◌}
use mathlib.Core.List.{List}
use Prim.Native.Nat.{ℕ, zero, suc, ◌+◌, ◌*◌, ◌^◌, ◌<◌, ◌≤◌, min}
use native.Mathlib.Nat.{mul-le-mul}
use native.Mathlib.Omega.{arith}
use lib.Dec.{leb, ltb, eqb}
use lib.IntN.{ℤ, pos, negsuc, nat_abs}
use mir.Syntax.{w16}
use mir.Val.{SFits, to_z, of_z}
use mir.Facts.{to_z-of_z}
use borrow.Author.Tests.{le-leb, lt-leb, le-ltb, lt-ltb, leb-true, leb-false, ltb-true, ltb-false, eqb-true, eqb-false}
use Rattle.fixed.specs.Operators.{L_mult, L_mac_overflow}
use Rattle.fixed.specs.Lists.{at}
use Rattle.sums.specs.Plain.{squared}
use Rattle.sums.proofs.Sums.{square_is, energy_from}
use Rattle.gain_sums.specs.Sums.{sum, overflow, clips}

-- from a sum of n squares, s in all, and a term of the square q: whether the term is clipped
step : (s q : ℕ) → leb (2 ^ 31) (2 * q) || leb (2 ^ 31) (min (1 + 2 * s) 2147483647 + min (2 * q) 2147483647) ≡ ltb 0 q && leb 1073741824 (s + q)
step s q = go (ltb 0 q) refl (leb 1073741824 (s + q)) refl (leb (2 ^ 31) (2 * q)) refl
  where
    whole : ℕ
    whole = min (1 + 2 * s) 2147483647 + min (2 * q) 2147483647

    go : (a : Bool) → ltb 0 q ≡ a → (b : Bool) → leb 1073741824 (s + q) ≡ b → (d : Bool) → leb (2 ^ 31) (2 * q) ≡ d →
        d || leb (2 ^ 31) (min (1 + 2 * s) 2147483647 + min (2 * q) 2147483647) ≡ a && b
    go false p b r true t = absurd (omega (arith, ltb-false 0 q p, leb-true (2 ^ 31) (2 * q) t))
    go false p b r false t = lt-leb (2 ^ 31) whole (omega (arith, ltb-false 0 q p))
    go true p true r true t = refl
    go true p true r false t = le-leb (2 ^ 31) whole (omega (arith, ltb-true 0 q p, leb-true 1073741824 (s + q) r))
    go true p false r true t = absurd (omega (arith, leb-false 1073741824 (s + q) r, leb-true (2 ^ 31) (2 * q) t))
    go true p false r false t = lt-leb (2 ^ 31) whole (omega (arith, leb-false 1073741824 (s + q) r))

-- whether a sum of squares overflows: where the whole of it does
whole : (s q : ℕ) → leb 2147483647 (2 * s) || (leb (2 ^ 31) (2 * q) || leb (2 ^ 31) (min (1 + 2 * s) 2147483647 + min (2 * q) 2147483647)) ≡ leb 2147483647 (2 * (s + q))
whole s q = go (leb 2147483647 (2 * s)) refl (leb (2 ^ 31) (2 * q)) refl (leb (2 ^ 31) (min (1 + 2 * s) 2147483647 + min (2 * q) 2147483647)) refl
  where
    go : (a : Bool) → leb 2147483647 (2 * s) ≡ a → (b : Bool) → leb (2 ^ 31) (2 * q) ≡ b →
        (c : Bool) → leb (2 ^ 31) (min (1 + 2 * s) 2147483647 + min (2 * q) 2147483647) ≡ c → a || (b || c) ≡ leb 2147483647 (2 * (s + q))
    go true p b r c t = sym (le-leb 2147483647 (2 * (s + q)) (omega (arith, leb-true 2147483647 (2 * s) p)))
    go false p true r c t = sym (le-leb 2147483647 (2 * (s + q)) (omega (arith, leb-true (2 ^ 31) (2 * q) r)))
    go false p false r true t = sym (le-leb 2147483647 (2 * (s + q)) (omega (arith, leb-false 2147483647 (2 * s) p, leb-true (2 ^ 31) (min (1 + 2 * s) 2147483647 + min (2 * q) 2147483647) t)))
    go false p false r false t = sym (lt-leb 2147483647 (2 * (s + q)) (omega (arith, leb-false 2147483647 (2 * s) p, leb-false (2 ^ 31) (2 * q) r, leb-false (2 ^ 31) (min (1 + 2 * s) 2147483647 + min (2 * q) 2147483647) t)))

pub squares_overflow : (xs : List ℤ) (n : ℕ) → overflow xs xs n ≡ leb 2147483647 (2 * squared (at xs) n)
unfolding overflow squared sum L_mac_overflow L_mult
squares_overflow xs zero = refl
squares_overflow xs (suc n) =
    rw (squares_overflow xs n, energy_from 1 xs n (omega arith), square_is (at xs n)) (whole (squared (at xs) n) (nat_abs (at xs n) * nat_abs (at xs n)))

-- an energy from 0 on is at the clip where one from 1 on overflows
pub clipped_energy : (n : ℕ) → leb 2147483647 n ≡ ltb 2147483646 (min n 2147483647)
clipped_energy n = go (leb 2147483647 n) refl
  where
    go : (t : Bool) → leb 2147483647 n ≡ t → t ≡ ltb 2147483646 (min n 2147483647)
    go true q = sym (lt-ltb 2147483646 (min n 2147483647) (omega (arith, leb-true 2147483647 n q)))
    go false q = sym (le-ltb 2147483646 (min n 2147483647) (omega (arith, leb-false 2147483647 n q)))

-- where a term more is clipped
pub squares_clip : (xs : List ℤ) (n : ℕ) →
    clips xs xs (suc n) ≡ clips xs xs n + cond (ltb 0 (nat_abs (at xs n) * nat_abs (at xs n)) && leb 1073741824 (squared (at xs) (suc n))) 1 0
unfolding clips squared sum L_mac_overflow L_mult
squares_clip xs n = rw (energy_from 1 xs n (omega arith), square_is (at xs n)) (ap (λ (t : Bool). clips xs xs n + cond t 1 0) (step (squared (at xs) n) (nat_abs (at xs n) * nat_abs (at xs n))))

-- where the squares are not past half the end no term is clipped
pub quiet_squares : (xs : List ℤ) (n : ℕ) → squared (at xs) n < 2 ^ 30 → clips xs xs n ≡ 0
unfolding clips squared
quiet_squares xs zero h = refl
quiet_squares xs (suc n) h =
    let q = nat_abs (at xs n) * nat_abs (at xs n) in
    squares_clip xs n ∙ rw (quiet_squares xs n (omega arith), lt-leb 1073741824 (squared (at xs) n + q) h) (neither (ltb 0 q))
  where
    neither : (t : Bool) → 0 + cond (t && false) 1 0 ≡ 0
    neither true = refl
    neither false = refl

-- and where they are, a term is clipped that is not 0
pub loud_squares : (xs : List ℤ) (n : ℕ) → 2 ^ 30 ≤ squared (at xs) (suc n) →
    clips xs xs (suc n) ≡ clips xs xs n + cond (ltb 0 (nat_abs (at xs n) * nat_abs (at xs n))) 1 0
loud_squares xs n h =
    let q = nat_abs (at xs n) * nat_abs (at xs n) in
    squares_clip xs n ∙ rw (le-leb 1073741824 (squared (at xs) (suc n)) h, both (ltb 0 q)) refl
  where
    both : (t : Bool) → t && true ≡ t
    both true = refl
    both false = refl

-- a word is not 0 where its square is not
positive : (z : ℤ) → (z ≡ pos 0 → ⊥) → 0 < nat_abs z * nat_abs z
positive (pos zero) other = absurd (other refl)
positive (pos (suc n)) other = let h : 1 ≤ suc n = omega arith in mul-le-mul h h
positive (negsuc n) other = let h : 1 ≤ suc n = omega arith in mul-le-mul h h

pub not_zero : {z : ℤ} → SFits w16 z → not (eqb (of_z w16 z) 0) ≡ ltb 0 (nat_abs z * nat_abs z)
not_zero {z} f = go (eqb (of_z w16 z) 0) refl
  where
    go : (t : Bool) → eqb (of_z w16 z) 0 ≡ t → not t ≡ ltb 0 (nat_abs z * nat_abs z)
    go true e = let y : z ≡ pos 0 = sym (to_z-of_z f) ∙ ap (to_z w16) (eqb-true (of_z w16 z) 0 e) in rw y refl
    go false e = sym (lt-ltb 0 (nat_abs z * nat_abs z) (positive z (λ y. eqb-false (of_z w16 z) 0 e (ap (of_z w16) y))))
