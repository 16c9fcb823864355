-- A list of 40 as two halves, whose squares are summed side by side.
use mathlib.Core.Path.{◌≡◌}
use mathlib.Core.List.{List}
use Prim.Native.Nat.{ℕ, zero, suc, ◌+◌}
use native.Mathlib.Nat.{add-zero, add-suc}
use native.Mathlib.Omega.{arith}
use lib.IntN.{ℤ}
use Rattle.fixed.specs.Lists.{at}
use Rattle.sums.specs.Plain.{squared}

-- squares in two parts
pub in_two : (x : ℕ → ℤ) (m n : ℕ) → squared x m + squared (λ k. x (m + k)) n ≡ squared x (m + n)
unfolding squared
in_two x m zero = rw (add-zero m) (omega arith)
in_two x m (suc n) = rw (add-suc m n, ← (in_two x m n)) (omega arith)

-- n of each half of the list
abbrev pub halves : List ℤ → ℕ → ℕ
halves x n = squared (at x) n + squared (λ k. at x (20 + k)) n
