use mathlib.Core.Path.{◌≡◌}
use mathlib.Core.List.{List}
use Prim.Native.Nat.{ℕ}
use lib.IntN.{ℤ, pos}
use lib.ListN.{length, replicate, length-replicate}
use borrow.Author.Tests.{eq-eqb, ne_eqb}
use Rattle.std.proofs.Common.{Result, Ok, Err, MatchResult, ◌≢◌}
use Rattle.std.specs.Array.{IsWholeChunk}
use Rattle.std.specs.Result.{result_unwrap_or}
use Rattle.fixed.specs.Lists.{copied}
use Rattle.sums.proofs.words_of.Goals as goal

-- by what the conversion answers
words_from : {E : Type 0} (n : ℕ) (xs : List ℤ) (r : Result (List ℤ) E) → MatchResult r (λ y. IsWholeChunk xs y n) (λ e. length xs ≢ n) →
    result_unwrap_or r (replicate n (pos 0)) ≡ copied xs (replicate n (pos 0))
unfolding copied
words_from n xs (Ok y) is = rw (length-replicate n (pos 0), eq-eqb (length xs) n is.long) is.same
words_from n xs (Err e) is = rw (length-replicate n (pos 0), ne_eqb (length xs) n is)

pub returns : goal.returns
returns g c = rw c.unwrap_or.ensures (words_from g.row.N c.args.list.now c.try_from.result c.try_from.ensures.1)
