-- Energies: squares from a place on, clipped once; and what an energy that is not clipped says of the correlations.
use mathlib.Core.Path.{◌≡◌, refl, sym, ap, ◌∙◌}
use mathlib.Core.Bool.{true}
use mathlib.Core.List.{List}
use Prim.Native.Nat.{ℕ, zero, suc, ◌+◌, ◌-◌, ◌*◌, ◌^◌, ◌≤◌, ◌<◌, min}
use native.Mathlib.Omega.{arith}
use lib.IntN.{ℤ, pos, nat_abs, ◌*ℤ◌}
use lib.Signed.{lt_z}
use lib.ListN.{take, drop}
use borrow.Author.Tests.{le-leb}
use mir.Syntax.{w32}
use mir.Val.{SFits}
use Rattle.std.proofs.lemmas.List.{get_or-take, get_or-drop}
use Rattle.fixed.specs.Operators.{L_add, L_mult}
use Rattle.fixed.specs.Lists.{at, L_sum}
use Rattle.fixed.proofs.Bounds.{fits_abs, abs_mul}
use Rattle.sums.proofs.Sums.{square_is}
use Rattle.sums.specs.Plain.{squared, plain}
use Rattle.sums.proofs.Quiet.{small, quiet, window, squared_same, not_clipped}
use Rattle.open_loop_correlation.specs.Correlations.{products, energy_from, correlation}

module _ (xs : List ℤ) where
  -- the words from a place on
  abbrev pub from : ℕ → ℕ → ℤ
  from a k = at xs (a + k)

  pub energy_at : (a n : ℕ) → products xs a a n ≡ pos (min (2 * squared (from a) n) 2147483647)
  unfolding products L_sum L_add L_mult squared
  energy_at a zero = refl
  energy_at a (suc n) = rw (energy_at a n, square_is (from a n)) (ap pos (omega arith))

  -- where they are among the 223
  pub energy_within : (a n : ℕ) → a + n ≤ 223 → energy_from xs a n ≡ products xs a a n
  unfolding energy_from
  energy_within a n h = rw (le-leb (a + n) 223 h)

  -- and so of a part of the words
  pub energy_part : (a n : ℕ) → a + n ≤ 223 → pos (min (2 * squared (at (take (a + n - a) (drop a xs))) n) 2147483647) ≡ energy_from xs a n
  energy_part a n h =
      let m : a + n - a ≡ n = omega arith in
      let s : squared (at (take n (drop a xs))) n ≡ squared (from a) n = squared_same (at (take n (drop a xs))) (from a) n (λ k l. rw (get_or-take n (drop a xs) k (pos 0) l) (get_or-drop a xs k (pos 0))) in
      rw (m, s) (sym (energy_within a n h ∙ energy_at a n))

  -- and from the first on
  pub energy_whole : (n : ℕ) → products xs 0 0 n ≡ pos (min (2 * squared (at xs) n) 2147483647)
  energy_whole n =
      let e : squared (from 0) n ≡ squared (at xs) n = squared_same (from 0) (at xs) n (λ k l. let z : 0 + k ≡ k = omega arith in ap (at xs) z) in
      rw (← e) (energy_at 0 n)

  -- the energy of all words is not clipped
  abbrev pub Quiet : Type 0
  Quiet = lt_z (products xs 0 0 223) (pos 2147483647) ≡ true

  squares_below : Quiet → squared (at xs) 223 < 2 ^ 30
  squares_below q = not_clipped (squared (at xs) 223) (rw (energy_whole 223) at q)

  -- half the sum of the first i new words against those a lag before them
  abbrev pub half : ℕ → ℕ → ℤ
  half lag i = plain (from 143) (from (143 - lag)) i

  module _ (lag : ℕ) (l : lag ≤ 143) (q : Quiet) where
    squares_of_both : (i : ℕ) → i ≤ 80 → squared (from 143) i + squared (from (143 - lag)) i < 2 ^ 31
    squares_of_both i h = omega (arith, window (at xs) 143 i 223 (omega arith), window (at xs) (143 - lag) i 223 (omega arith), squares_below q)

    half_below : (i : ℕ) → i ≤ 80 → nat_abs (half lag i) < 2 ^ 30
    half_below i h = omega (arith, small (from 143) (from (143 - lag)) i, squares_of_both i h)

    pub half_fits : (i : ℕ) → i ≤ 80 → SFits w32 (half lag i)
    half_fits i h = fits_abs w32 (half lag i) (omega (arith, half_below i h))

    pub whole_fits : SFits w32 (pos 2 *ℤ half lag 80)
    whole_fits = fits_abs w32 (pos 2 *ℤ half lag 80) (rw (abs_mul (pos 2) (half lag 80)) (omega (arith, half_below 80 (omega arith))))

    pub whole_is : pos 2 *ℤ half lag 80 ≡ correlation xs lag
    unfolding correlation products
    whole_is = sym (quiet (from 143) (from (143 - lag)) 80 (squares_of_both 80 (omega arith)))
