-- Syn_filt without clipping: half the sum as an exact number, in either order of the taps, and how great it can get.
use mathlib.Core.Path.{◌≡◌, refl}
use mathlib.Core.List.{List}
use Prim.Native.Nat.{ℕ, zero, suc, ◌+◌, ◌-◌, ◌*◌, ◌^◌, ◌≤◌, ◌<◌, max}
use native.Mathlib.Nat.{mul-le-mul, le_refl}
use native.Mathlib.Omega.{arith}
use lib.IntN.{ℤ, pos, nat_abs, ◌-ℤ◌, ◌*ℤ◌}
use lib.ListN.{length, set}
use lib.Seq.{get_or-set_same, get_or-set_other}
use Rattle.fixed.specs.Lists.{at}
use Rattle.fixed.specs.Operators.{L_mult}
use Rattle.fixed.proofs.Bounds.{abs_sub, abs_mul}
use Rattle.sums.proofs.Plain.{sub_swap, plain_mult, plain_msu}
use Rattle.synthesis_filter.specs.Synthesis.{less_past}
use Rattle.synthesis_filter.specs.Plain.{magnitudes, weighed, Below}

module _ (cs ys : List ℤ) (place : ℕ) where
  -- the product of tap n + 1
  abbrev pub tapped : ℕ → ℤ
  tapped n = at cs (suc n) *ℤ at ys (place - suc n)

  -- s less the first n of them
  unfoldable pub exact_less : ℤ → ℕ → ℤ
  exact_less s zero = s
  exact_less s (suc n) = exact_less s n -ℤ tapped n

  exact_swap : (s q : ℤ) (n : ℕ) → exact_less (s -ℤ q) n ≡ exact_less s n -ℤ q
  unfolding exact_less
  exact_swap s q zero = refl
  exact_swap s q (suc n) = rw (exact_swap s q n) (sub_swap (exact_less s n) (tapped n) q)

  -- the last tap first
  pub exact_above : (s : ℤ) (n : ℕ) → exact_less (s -ℤ tapped n) n ≡ exact_less s (suc n)
  unfolding exact_less
  exact_above s n = exact_swap s (tapped n) n

  exact_bound : (s : ℤ) (n : ℕ) → nat_abs (exact_less s n) ≤ nat_abs s + weighed cs ys place n
  unfolding exact_less weighed
  exact_bound s zero = omega arith
  exact_bound s (suc n) =
      omega (arith, exact_bound s n, abs_sub (exact_less s n) (tapped n), abs_mul (at cs (suc n)) (at ys (place - suc n)))

  -- one tap less to come
  pub bound_above : (s : ℤ) (n : ℕ) → nat_abs (s -ℤ tapped n) + weighed cs ys place n ≤ nat_abs s + weighed cs ys place (suc n)
  unfolding weighed
  bound_above s n = omega (arith, abs_sub s (tapped n), abs_mul (at cs (suc n)) (at ys (place - suc n)))

  -- below 2 ^ 30 the clipped sum is twice the exact one
  plain_less : (s : ℤ) (n : ℕ) → nat_abs s + weighed cs ys place n < 2 ^ 30 → less_past cs ys place (pos 2 *ℤ s) n ≡ pos 2 *ℤ exact_less s n
  unfolding less_past exact_less weighed
  plain_less s zero h = refl
  plain_less s (suc n) h =
      rw (plain_less s n (omega arith)) (plain_msu (exact_less s n) (at cs (suc n)) (at ys (place - suc n)) (omega (arith, exact_bound s n)))

  pub plain_filter : (x : ℤ) → nat_abs (x *ℤ at cs 0) + weighed cs ys place 10 < 2 ^ 30 →
      less_past cs ys place (L_mult x (at cs 0)) 10 ≡ pos 2 *ℤ exact_less (x *ℤ at cs 0) 10
  plain_filter x h = rw (plain_mult x (at cs 0) (omega arith)) (plain_less (x *ℤ at cs 0) 10 h)

  -- what the test computes is no less
  pub weighed_le : (peak n : ℕ) → n ≤ place → Below ys place peak → weighed cs ys place n ≤ magnitudes cs n * peak
  unfolding weighed magnitudes
  weighed_le peak zero h p = omega arith
  weighed_le peak (suc n) h p =
      omega (arith, weighed_le peak n (omega arith) p, mul-le-mul (le_refl (nat_abs (at cs (suc n)))) (p (place - suc n) (omega arith)))

-- a sample more, and the peak with it
pub below_more : (ys : List ℤ) (i peak : ℕ) (v : ℤ) → i < length ys → Below ys i peak → Below (set ys i v) (i + 1) (max peak (nat_abs v))
below_more ys i peak v h p =
    borrow.Author.Count.below_more (λ (k : ℕ). nat_abs (at (set ys i v) k) ≤ max peak (nat_abs v)) i
    (λ k l. rw (get_or-set_other ys i k v (pos 0) (λ (q : k ≡ i). absurd (omega arith))) (omega (arith, p k l)))
    (rw (get_or-set_same ys i v (pos 0) h) (omega arith))
