-- 02, request 09: the proof that the innovation's energy is never clipped, and the examples of the counts computed.
use mathlib.Core.Path.{◌≡◌, refl}
use mathlib.Core.List.{List, [], ◌∷◌}
use Prim.Native.Nat.{ℕ, ◌<◌, ◌≤◌}
use native.Mathlib.Omega.{arith}
use lib.IntN.{ℤ, pos, negsuc, nat_abs}
use Rattle.fixed.specs.Operators.{shl}
use Rattle.fixed.specs.Lists.{at, shifted, Words}
use Rattle.fixed.proofs.Bounds.{word_fits}
use Rattle.fixed.proofs.Lists.{at_tabulate}
use Rattle.fixed.proofs.Shifts.{eighth_le}
use Rattle.sums.proofs.Quiet.{squared_below}
use Rattle.gain_sums.proofs.Squares.{quiet_squares}
use Rattle.gain.specs.Opens.{gain_opens}
use Rattle.gain.specs.Rows.{Qua_gain, eighths}
use Rattle.gain.specs.Statement.{InnovationNeverClips, counts_of, ExamplesOfCounts}

eighths_le : (zs : List ℤ) → Words zs → (k : ℕ) → k < 40 → nat_abs (at (eighths zs) k) ≤ 4096
unfolding shifted
eighths_le zs w k h = rw (at_tabulate (λ j. shl (at zs j) (negsuc 2)) (pos 0) 40 k h) (eighth_le (at zs k) (word_fits (at zs k) (w k)))

pub innovation_never_clips : InnovationNeverClips
unfolding InnovationNeverClips Qua_gain
innovation_never_clips xs ys zs exponent fraction limit w =
    let l = squared_below (at (eighths zs)) 4096 40 (eighths_le zs w) in
    quiet_squares (eighths zs) 40 (omega arith)

-- ---- the examples, a declaration each
loudest : counts_of (negsuc 32767) ≡ 40 ∷ 40 ∷ 0 ∷ 33 ∷ 33 ∷ []
unfolding gain_opens
loudest = refl

quietest : counts_of (pos 1) ≡ 0 ∷ 0 ∷ 0 ∷ 0 ∷ 0 ∷ []
unfolding gain_opens
quietest = refl

pub examples_of_counts : ExamplesOfCounts
unfolding ExamplesOfCounts
examples_of_counts = (loudest, quietest)
