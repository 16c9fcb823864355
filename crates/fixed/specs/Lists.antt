-- Lists of numbers by the place, and the sums of TS 26.073's loops over them.
use Rattle.std.specs.Prelude.{Bool, cond, ◌&&◌, List, [], ◌∷◌, ℕ, zero, suc, ◌+◌, ltb, leb, eqb, ℤ, pos, negsuc, ◌≤ℤ◌, length, get_or}
use Rattle.fixed.specs.Operators.{L_add, L_mult, shl}

-- the number at place i
abbrev pub at : List ℤ → ℕ → ℤ
at xs i = get_or xs i (pos 0)

-- 01: 'A *word* is 16-bit signed'. Every place of the list holds one (past its end `at` reads 0). A list that the code takes is `[i16]` and holds nothing
-- else; a list of integers has no width, so a statement over such lists says it
abbrev pub Words : List ℤ → Type 0
Words xs = (k : ℕ) → (negsuc 32767 ≤ℤ at xs k) × (at xs k ≤ℤ pos 32767)

-- f i, f (i + 1), ..: n of them
unfoldable pub tabulate_from : {A : Type 0} → ℕ → (ℕ → A) → ℕ → List A
tabulate_from i f zero = []
tabulate_from i f (suc n) = f i ∷ tabulate_from (suc i) f n

-- f 0, .., f (n - 1)
unfoldable pub tabulate : {A : Type 0} → (ℕ → A) → ℕ → List A
tabulate f n = tabulate_from 0 f n

-- n words of a list, from a place on
unfoldable pub part : List ℤ → ℕ → ℕ → List ℤ
part xs from n = tabulate (λ k. at xs (from + k)) n

-- n words, each shifted by a signed count
unfoldable pub shifted : List ℤ → ℤ → ℕ → List ℤ
shifted xs count n = tabulate (λ k. shl (at xs k) count) n

-- a list into which another of the same length is copied
unfoldable pub copied : List ℤ → List ℤ → List ℤ
copied xs ys = cond (eqb (length xs) (length ys)) xs ys

-- g of each place from low up to, and without, end; d of every other
abbrev pub between : (ℕ → ℤ) → (ℕ → ℤ) → ℕ → ℕ → ℕ → ℤ
between g d low end k = cond (leb low k && ltb k end) (g k) (d k)

-- s + f 0 + .. + f (n - 1). 01: 'Sums are clipped after every single addition'
unfoldable pub L_sum : ℤ → (ℕ → ℤ) → ℕ → ℤ
L_sum s f zero = s
L_sum s f (suc n) = L_add (L_sum s f n) (f n)

-- L_mac in a loop over the first n places of two lists
unfoldable pub dot : List ℤ → List ℤ → ℕ → ℤ
dot xs ys n = L_sum (pos 0) (λ k. L_mult (at xs k) (at ys k)) n

-- ---- the loops that look for a greatest value
-- the place held, or place k where `wins` says so of the held value and its own
unfoldable pub better : (ℤ → ℤ → Bool) → (ℕ → ℤ) → ℕ → ℕ → ℕ
better wins f held k = cond (wins (f held) (f k)) k held

-- the places low to low + n gone through upwards. With ltZ the greatest value is found, at the first place that has it; with leZ at the last
unfoldable pub best : (ℤ → ℤ → Bool) → (ℕ → ℤ) → ℕ → ℕ → ℕ
best wins f low zero = low
best wins f low (suc n) = better wins f (best wins f low n) (low + suc n)
