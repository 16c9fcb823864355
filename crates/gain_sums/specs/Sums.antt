-- TS 26.073 G_pitch and calc_filt_energies: a scalar product of two lists, its 'Overflow', and how often it was clipped.
use Rattle.std.specs.Prelude.{Bool, false, cond, ◌||◌, List, ℕ, zero, suc, ◌+◌, ◌*◌, ◌<◌, ◌≤◌, ℤ, pos, nat_abs}
use Rattle.fixed.specs.declared.Flagged.{Flagged}
use Rattle.fixed.specs.Operators.{L_mult, L_mac_overflow}
use Rattle.fixed.specs.Lists.{at, L_sum}
use Rattle.gain_sums.specs.declared.Counted.{Counted}

-- 's = 1L; // Avoid case of all zeros', then L_mac at each of n places
unfoldable pub sum : List ℤ → List ℤ → ℕ → ℤ
sum xs ys n = L_sum (pos 1) (λ k. L_mult (at xs k) (at ys k)) n

-- 'Overflow' after them
unfoldable pub overflow : List ℤ → List ℤ → ℕ → Bool
overflow xs ys zero = false
overflow xs ys (suc n) = overflow xs ys n || L_mac_overflow (sum xs ys n) (at xs n) (at ys n)

-- both
unfoldable pub flagged_sum : List ℤ → List ℤ → ℕ → Flagged
flagged_sum xs ys n = record { value = sum xs ys n; overflow = overflow xs ys n }

-- 02, request 09: 'the number of terms, 0 to 40, at which the doubled product or the running sum was clipped; a term where both were counts once'
unfoldable pub clips : List ℤ → List ℤ → ℕ → ℕ
clips xs ys zero = 0
clips xs ys (suc n) = clips xs ys n + cond (L_mac_overflow (sum xs ys n) (at xs n) (at ys n)) 1 0

-- the sum with it
unfoldable pub counted_sum : List ℤ → List ℤ → ℕ → Counted
counted_sum xs ys n = record { value = sum xs ys n; clips = clips xs ys n }

-- 40 words each that are quiet beside each other: no product of two is above a fortieth of 2 ^ 30, so that no step can be clipped
abbrev pub Quiet : List ℤ → List ℤ → Type 0
Quiet xs ys = (k : ℕ) → k < 40 → nat_abs (at xs k) * nat_abs (at ys k) ≤ 26843545
