-- 01: 'The answer is the lowest index of least clipped distance among rows within the limit', of the search's own answer.
use mathlib.Core.Path.{◌≡◌}
use mathlib.Core.Bool.{Bool, true}
use mathlib.Core.List.{List}
use Prim.Native.Nat.{ℕ, ◌<◌}
use native.Mathlib.Omega.{arith}
use lib.IntN.{ℤ, pos}
use Rattle.fixed.specs.Lists.{at, tabulate}
use Rattle.fixed.proofs.Lists.{at_tabulate}
use Rattle.gain_choice.specs.Rows.{row_distance, distances, within_limit, nearest_row, LowestOfLeast}
use Rattle.gain_choice.proofs.Leasts.{lowest_of_least}

-- only the distances of the n rows count
same_distances : (within : ℕ → Bool) (d e : ℕ → ℤ) (n i : ℕ) → ((k : ℕ) → k < n → d k ≡ e k) → LowestOfLeast within d n i → LowestOfLeast within e n i
same_distances within d e n i p L =
    let here = p i L.row in
    let h = L.row in
    record {
      row = h;
      allowed = L.allowed;
      least = λ k l w. rw (here, p k l) at (L.least k l w);
      lowest = λ k l w. rw (here, p k (omega arith)) at (L.lowest k l w);
    }

-- where row 0 is within the limit
pub nearest_is : (ws : List ℤ) (g limit : ℤ) → within_limit limit 0 ≡ true → LowestOfLeast (within_limit limit) (row_distance ws g) 128 (nearest_row ws g limit)
unfolding nearest_row distances
nearest_is ws g limit h =
    same_distances (within_limit limit) (at (tabulate (row_distance ws g) 128)) (row_distance ws g) 128 _ (λ k l. at_tabulate (row_distance ws g) (pos 0) 128 k l)
    (lowest_of_least (within_limit limit) (at (tabulate (row_distance ws g) 128)) 127 h)
