use Rattle.std.proofs.Common.{◌≡◌, ◌+◌, ◌-◌, pos, length}
use Rattle.fixed.specs.Lists.{between}
use Rattle.fixed.proofs.Lists.{Filled}
use Rattle.codebook_matrix.specs.Matrices.{entry}
use Rattle.codebook_matrix.proofs.Entries.{mirror}
use Rattle.codebook_matrix.proofs.Filling as filling
use Rattle.codebook_matrix.proofs.Sliding.{sum_at}
use Rattle.codebook_matrix.proofs.plain_correlations.Given as goal

-- k terms of every sum, and the last k rows and columns of the table
abbrev pub invariant-loop-k : goal.invariant-loop-k
invariant-loop-k l =
    (length l.sums ≡ 80) × Filled (sum_at l.normalized l.k) (pos 0) 80 l.sums × filling.Rows (entry l.normalized l.signs.words.now) (mirror l.normalized l.signs.words.now) l.table l.k

-- term k of the first i sums that get one
abbrev pub invariant-loop-i : goal.invariant-loop-i
invariant-loop-i l =
    (length l.sums ≡ 80) × Filled (between (sum_at l.normalized (l.k + 1)) (sum_at l.normalized l.k) l.k (l.k + l.i)) (pos 0) 80 l.sums

-- the first i places of row and column 39 - k
abbrev pub invariant-loop-i-2 : goal.invariant-loop-i-2
invariant-loop-i-2 l =
    filling.Filled (entry l.normalized l.signs.words.now) (mirror l.normalized l.signs.words.now) l.table (39 - l.k) l.i
