-- The choice among the eight places of a track, by lists of their squares and energies.
use mathlib.Core.Path.{◌≡◌, refl}
use mathlib.Core.Bool.{true, false, cond}
use mathlib.Core.List.{List}
use Prim.Native.Nat.{ℕ, zero, suc, ◌+◌, ◌*◌, ◌/◌, ◌<◌}
use native.Mathlib.Omega.{arith}
use lib.Dec.{eqb}
use lib.IntN.{ℤ}
use borrow.Author.Tests.{ne_eqb}
use Rattle.fixed.specs.Operators.{add}
use Rattle.fixed.specs.Lists.{at}
use Rattle.codebook_steps.specs.declared.Step.{Step}
use Rattle.codebook_steps.specs.Steps.{exceeds, better, none_in}
use Rattle.codebook_choice.specs.Choices.{best_step}

-- only the steps at a track's places count
pub best_same : (f g : ℕ → Step) (track n : ℕ) → ((k : ℕ) → k < n → f (track + 5 * k) ≡ g (track + 5 * k)) → best_step f track n ≡ best_step g track n
unfolding best_step
best_same f g track zero e = refl
best_same f g track (suc n) e = rw (best_same f g track n (λ k h. e k (omega arith)), e n (omega arith))

-- place number n of a track
pub number_of : (track n : ℕ) → track < 5 → (track + 5 * n) / 5 ≡ n
number_of track n h = omega arith

module _ (cs squares energies : List ℤ) (sum : ℤ) (track : ℕ) where
  -- what the lists tell of a place
  abbrev pub candidate : ℕ → Step
  candidate p = record { place = p; sum = add sum (at cs p); square = at squares (p / 5); energy = at energies (p / 5) }

  -- the step at number n of the track, none at 8
  abbrev pub seen : ℕ → ℤ → ℤ → Step
  seen n square energy = cond (eqb n 8) (none_in track) (record { place = track + 5 * n; sum = add sum (at cs (track + 5 * n)); square = square; energy = energy })

  -- the best of the first n is this step
  abbrev pub Held : ℕ → ℕ → ℤ → ℤ → Type 0
  Held n found square energy =
      (best_step candidate track n ≡ seen found square energy) × ((best_step candidate track n).square ≡ square) × ((best_step candidate track n).energy ≡ energy)

  pub number_more : (n : ℕ) → track < 5 → n < 8 →
      exceeds (at squares n) (at energies n) (best_step candidate track n).square (best_step candidate track n).energy ≡ true → Held (suc n) n (at squares n) (at energies n)
  unfolding best_step better
  number_more n t l e = let d = number_of track n t in rw (d, e, ne_eqb n 8 (λ (q : n ≡ 8). absurd (omega arith))) (refl, refl, refl)

  pub number_less : (n found : ℕ) (square energy : ℤ) → track < 5 →
      exceeds (at squares n) (at energies n) (best_step candidate track n).square (best_step candidate track n).energy ≡ false → Held n found square energy → Held (suc n) found square energy
  unfolding best_step better
  number_less n found square energy t e h = let d = number_of track n t in rw (d, e) h

  -- the lists may be those of steps f
  pub best_of : (f : ℕ → Step) → track < 5 →
      ((n : ℕ) → n < 8 → f (track + 5 * n) ≡ record { place = track + 5 * n; sum = add sum (at cs (track + 5 * n)); square = at squares n; energy = at energies n }) →
      best_step candidate track 8 ≡ best_step f track 8
  best_of f t is = best_same candidate f track 8 (λ k h. let d = number_of track k t in rw (is k h, d))
