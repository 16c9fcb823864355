-- How long the lists are that Residu takes and puts out.
use mathlib.Core.Path.{◌≡◌}
use mathlib.Core.List.{List}
use lib.IntN.{ℤ, pos}
use lib.ListN.{length}
use borrow.Author.Tests.{eq-eqb}
use Rattle.fixed.proofs.Lists.{length_tabulate}
use Rattle.filters.specs.Filters.{residual_at, Residu, filtered}

pub residu_length : (cs xs : List ℤ) → length (Residu cs xs) ≡ 40
unfolding Residu
residu_length cs xs = length_tabulate (residual_at cs xs) (pos 0) 40

-- lists as long as the filter takes them
pub filtered_whole : (cs xs : List ℤ) → length cs ≡ 11 → length xs ≡ 50 → filtered cs xs ≡ Residu cs xs
unfolding filtered
filtered_whole cs xs e f = rw (eq-eqb (length cs) 11 e, eq-eqb (length xs) 50 f)
