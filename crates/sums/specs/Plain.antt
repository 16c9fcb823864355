-- Sums that are never clipped, and what tells where a clipped sum is such a one. The terms are given by their places.
use Rattle.std.specs.Prelude.{ℕ, zero, suc, ◌+◌, ◌*◌, max, ℤ, pos, nat_abs, ◌+ℤ◌, ◌*ℤ◌}

-- the products of the first n terms, never clipped
unfoldable pub plain : (ℕ → ℤ) → (ℕ → ℤ) → ℕ → ℤ
plain x y zero = pos 0
plain x y (suc n) = plain x y n +ℤ x n *ℤ y n

-- the squares of the first n terms. A list is quiet where its energy, twice this, is not clipped
unfoldable pub squared : (ℕ → ℤ) → ℕ → ℕ
squared x zero = 0
squared x (suc n) = squared x n + nat_abs (x n) * nat_abs (x n)

-- the reach of a list, the sum of its magnitudes: no sum of products is farther from 0 than it times the greatest magnitude of the factors. The first n terms
unfoldable pub reach : (ℕ → ℤ) → ℕ → ℕ
reach y zero = 0
reach y (suc n) = reach y n + nat_abs (y n)

-- the magnitudes of the first n products
unfoldable pub weighed : (ℕ → ℤ) → (ℕ → ℤ) → ℕ → ℕ
weighed x y zero = 0
weighed x y (suc n) = weighed x y n + nat_abs (x n) * nat_abs (y n)

-- the peak of a list, its greatest magnitude: of the first n terms
unfoldable pub peak : (ℕ → ℤ) → ℕ → ℕ
peak y zero = 0
peak y (suc n) = max (peak y n) (nat_abs (y n))
