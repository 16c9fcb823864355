-- What can be chosen: a whole lag of the window, one of five steps, and what they settle at.
use mathlib.Core.Path.{◌≡◌, refl, ap}
use mathlib.Core.Bool.{Bool, true, false, ◌&&◌}
use mathlib.Core.Logic.{◌⊎◌, inl, inr}
use mathlib.Core.List.{List}
use Prim.Native.Nat.{ℕ, zero, suc, ◌+◌, ◌-◌, ◌*◌, ◌≤◌, ◌<◌}
use native.Mathlib.Omega.{arith}
use lib.Dec.{ltb}
use lib.IntN.{ℤ}
use lib.Signed.{lt_z, le_z}
use borrow.Author.Tests.{le-leb, ltb-true, ltb-false}
use Rattle.fixed.specs.Lists.{at}
use Rattle.fixed.proofs.Bounds.{either}
use Rattle.fixed.proofs.Choices.{best_in}
use Rattle.pitch.specs.declared.Fraction.TheVariants.{MinusThird, Zero}
use Rattle.pitch.specs.declared.PitchLag.{PitchLag}
use Rattle.pitch.specs.Statement.{in_thirds, AbsoluteChoice, RelativeChoice}
use Rattle.pitch_choice.specs.Choices.{Interpol_6, step_value, best_lag, best_step, settled, step_of, chosen, choose}

module _ (cs : List ℤ) (lag : ℕ) where
  pub step_early : (step : ℕ) → step < 2 → step_value cs lag step ≡ Interpol_6 cs (lag - 1) (2 + 2 * step)
  unfolding step_value
  step_early zero h = refl
  step_early (suc zero) h = refl
  step_early (suc (suc k)) h = absurd (omega arith)

  pub step_late : (step : ℕ) → 2 ≤ step → step_value cs lag step ≡ Interpol_6 cs lag (2 * (step - 2))
  unfolding step_value
  step_late zero h = absurd (omega arith)
  step_late (suc zero) h = absurd (omega arith)
  step_late (suc (suc k)) h = let e : 2 * k ≡ 2 * (suc (suc k) - 2) = omega arith in ap (Interpol_6 cs lag) e

pub settled_last : (lag step : ℕ) → 4 ≤ step → settled lag step ≡ record { samples = lag + 1; fraction = MinusThird }
settled_last lag zero h = absurd (omega arith)
settled_last lag (suc zero) h = absurd (omega arith)
settled_last lag (suc (suc zero)) h = absurd (omega arith)
settled_last lag (suc (suc (suc zero))) h = absurd (omega arith)
settled_last lag (suc (suc (suc (suc k)))) h = refl

module _ (cs : List ℤ) where
  pub best_lag_in : (start n : ℕ) → (start ≤ best_lag cs start n) × (best_lag cs start n ≤ start + n)
  unfolding best_lag
  best_lag_in start n = best_in le_z (at cs) start n

  pub best_step_in : (lag n : ℕ) → best_step cs lag n ≤ n
  unfolding best_step
  best_step_in lag n = omega (arith, (best_in lt_z (step_value cs lag) 0 n).1)

-- a settled lag counted in thirds: the whole lag's thirds and the step, less one
settled_thirds : (lag step : ℕ) → 1 ≤ lag → step ≤ 4 → in_thirds (settled lag step) ≡ 3 * lag + step - 1
settled_thirds lag zero h g = omega arith
settled_thirds lag (suc zero) h g = omega arith
settled_thirds lag (suc (suc zero)) h g = omega arith
settled_thirds lag (suc (suc (suc zero))) h g = omega arith
settled_thirds lag (suc (suc (suc (suc zero)))) h g = omega arith
settled_thirds lag (suc (suc (suc (suc (suc k))))) h g = absurd (omega arith)

step_of_in : (t : Bool) (cs : List ℤ) (lag : ℕ) → step_of t cs lag ≤ 4
step_of_in t cs lag = either (λ (k : ℕ). k ≤ 4) (t && ltb 84 lag) 2 (best_step cs lag 4) (omega arith) (best_step_in cs lag 4)

-- what is chosen in a window from 20 up, counted in thirds
module _ (t : Bool) (cs : List ℤ) (start span : ℕ) (h : 20 ≤ start) where
  chosen_thirds : in_thirds (chosen t cs start span) ≡ 3 * best_lag cs start span + step_of t cs (best_lag cs start span) - 1
  unfolding chosen
  chosen_thirds =
      let l = best_lag cs start span in settled_thirds l (step_of t cs l) (omega (arith, (best_lag_in cs start span).0)) (step_of_in t cs l)

  pub chosen_low : 3 * start ≤ in_thirds (chosen t cs start span) + 1
  chosen_low = rw chosen_thirds (omega (arith, (best_lag_in cs start span).0))

  pub chosen_high : in_thirds (chosen t cs start span) ≤ 3 * (start + span) + 3
  chosen_high =
      let l = best_lag cs start span in rw chosen_thirds (omega (arith, (best_lag_in cs start span).1, step_of_in t cs l))

-- an absolute lag: by thirds up to 85 and −1, or whole from 85 on
pub absolute_choice : (cs : List ℤ) (start : ℕ) → 20 ≤ start → AbsoluteChoice start (chosen true cs start 6)
unfolding chosen
absolute_choice cs start h = record { from = chosen_low true cs start 6 h; to = to }
  where
    l : ℕ
    l = best_lag cs start 6

    To : PitchLag → Type 0
    To c = (in_thirds c ≤ 255) ⊎ ((85 ≤ c.samples) × (c.samples ≤ start + 6) × (c.fraction ≡ Zero))

    go : (t : Bool) → ltb 84 l ≡ t → To (settled l (step_of true cs l))
    go true q = rw q (inr (ltb-true 84 l q, (best_lag_in cs start 6).1, refl))
    go false q =
        rw q (inl (rw (settled_thirds l (best_step cs l 4) (omega (arith, (best_lag_in cs start 6).0)) (best_step_in cs l 4)) (omega (arith, ltb-false 84 l q, best_step_in cs l 4))))

    to : To (chosen true cs start 6)
    to = go (ltb 84 l) refl

-- a relative lag
pub relative_choice : (cs : List ℤ) (start : ℕ) → 20 ≤ start → RelativeChoice start (chosen false cs start 9)
relative_choice cs start h = record { from = chosen_low false cs start 9 h; to = chosen_high false cs start 9 h }

-- a search has such a window
pub choose_in : (t : Bool) (cs : List ℤ) (start span : ℕ) → 20 ≤ start → start + span ≤ 143 → choose t cs start span ≡ chosen t cs start span
unfolding choose
choose_in t cs start span h l = rw (le-leb 20 start h, le-leb (start + span) 143 l)
