use Rattle.std.proofs.Common.{◌≡◌, ◌+◌, ◌-◌, pos, length}
use Rattle.fixed.specs.Lists.{between}
use Rattle.fixed.proofs.Lists.{Filled}
use Rattle.sums.proofs.Rows.{taken}
use Rattle.codebook_matrix.specs.Matrices.{entry}
use Rattle.codebook_matrix.proofs.Entries.{mirror, term, terms}
use Rattle.codebook_matrix.proofs.Filling as filling
use Rattle.codebook_matrix.proofs.clipped_correlations.Given as goal

-- k terms of every sum that has so many, and the last k rows and columns of the table
abbrev pub invariant-loop-k : goal.invariant-loop-k
invariant-loop-k l =
    (length l.sums ≡ 40) × Filled (taken (term l.normalized) terms l.k) (pos 0) 40 l.sums × filling.Rows (entry l.normalized l.signs) (mirror l.normalized l.signs) l.table l.k

-- term k of the first d sums
abbrev pub invariant-loop-d : goal.invariant-loop-d
invariant-loop-d l =
    (length l.sums ≡ 40) × Filled (between (taken (term l.normalized) terms (l.k + 1)) (taken (term l.normalized) terms l.k) 0 l.d) (pos 0) 40 l.sums

-- the first i places of row and column 39 - k
abbrev pub invariant-loop-i : goal.invariant-loop-i
invariant-loop-i l =
    filling.Filled (entry l.normalized l.signs) (mirror l.normalized l.signs) l.table (39 - l.k) l.i
