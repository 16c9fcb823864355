-- The best lag of a section, the lag that is kept, and where it lies.
use mathlib.Core.Path.{◌≡◌, refl}
use mathlib.Core.Bool.{Bool, true, false, cond}
use mathlib.Core.List.{List}
use Prim.Native.Nat.{ℕ, ◌+◌, ◌≤◌}
use native.Mathlib.Omega.{arith}
use lib.IntN.{ℤ, pos}
use lib.Signed.{lt_z}
use Rattle.fixed.specs.Operators.{mult}
use Rattle.fixed.specs.Lists.{at, best}
use Rattle.fixed.proofs.Bounds.{either}
use Rattle.fixed.proofs.Choices.{best_in, best_same}
use Rattle.open_loop_correlation.specs.Correlations.{correlation, by_lag}
use Rattle.open_loop_correlation.proofs.Lags.{at_lag}
use Rattle.open_loop_sections.specs.Sections.{scaled_all, value_at, held_at, Lag_max, favoured, of_sections, lag_of}

module _ (xs : List ℤ) where
  pub lag_max_table : (low span : ℕ) → 20 ≤ low → low + span ≤ 143 → best lt_z (at (by_lag xs)) low span ≡ Lag_max xs low span
  unfolding Lag_max
  lag_max_table low span h l = best_same lt_z (at (by_lag xs)) (correlation xs) low span (λ k g f. at_lag xs k (omega arith) (omega arith))

  -- the lag that is kept, with its value
  pub favoured_held : (h l : ℕ) → cond (lt_z (mult (value_at xs h) (pos 27853)) (value_at xs l)) (held_at xs l) (held_at xs h) ≡ held_at xs (favoured xs h l)
  unfolding favoured
  favoured_held h l = go (lt_z (mult (value_at xs h) (pos 27853)) (value_at xs l))
    where
      go : (t : Bool) → cond t (held_at xs l) (held_at xs h) ≡ held_at xs (cond t l h)
      go true = refl
      go false = refl

  favoured_in : (h l : ℕ) → (20 ≤ h) × (h ≤ 143) → (20 ≤ l) × (l ≤ 143) → (20 ≤ favoured xs h l) × (favoured xs h l ≤ 143)
  unfolding favoured
  favoured_in h l p q = either (λ (k : ℕ). (20 ≤ k) × (k ≤ 143)) (lt_z (mult (value_at xs h) (pos 27853)) (value_at xs l)) l h q p

  pub lag_max_in : (low span : ℕ) → 20 ≤ low → low + span ≤ 143 → (20 ≤ Lag_max xs low span) × (Lag_max xs low span ≤ 143)
  unfolding Lag_max
  lag_max_in low span h l = let b = best_in lt_z (correlation xs) low span in (omega (arith, b.0), omega (arith, b.1))

  sections_in : (20 ≤ of_sections xs) × (of_sections xs ≤ 143)
  unfolding of_sections
  sections_in =
      favoured_in (favoured xs (Lag_max xs 80 63) (Lag_max xs 40 39)) (Lag_max xs 20 19)
      (favoured_in (Lag_max xs 80 63) (Lag_max xs 40 39) (lag_max_in 80 63 (omega arith) (omega arith)) (lag_max_in 40 39 (omega arith) (omega arith)))
      (lag_max_in 20 19 (omega arith) (omega arith))

-- the answered lag is 20 to 143
pub lag_in : (xs : List ℤ) → (20 ≤ lag_of xs) × (lag_of xs ≤ 143)
unfolding lag_of
lag_in xs = sections_in (scaled_all xs)
