use Prim.Native.Nat.{ℕ}
use lib.IntN.{ℤ, pos}
use borrow.Author.Rules.{rules}
use Rattle.fixed.proofs.Lists.{at_tabulate}
use Rattle.fixed.proofs.Made.{made}
use Rattle.filters.specs.Filters.{taps_to, residual_at, Residu}
use Rattle.filters.proofs.residual.Goals as goal

pub returns : goal.returns
unfolding Residu residual_at
returns c =
    let cs = c.args.coefficients.now in
    let xs = c.args.samples.now in
    let f : ℕ → ℤ = λ i. taps_to cs xs i 11 in
    made _ (pos 0) (residual_at cs xs) 40 _
    (λ k r f' l h. rw (← at_tabulate f (pos 0) 40 k l, ← c.tap_sums-sums.ensures) (search rules)) _ c.from_fn.ensures.items
