use Prim.Native.Nat.{◌-◌}
use native.Mathlib.Omega.{arith}
use lib.IntN.{pos}
use borrow.Author.Rules.{rules}
use Rattle.fixed.specs.Lists.{tabulate}
use Rattle.fixed.proofs.Lists.{at_tabulate}
use Rattle.fixed.proofs.Made.{made}
use Rattle.sums.specs.Convolutions.{convolution}
use Rattle.codebook_target.specs.Targets.{correlated}
use Rattle.codebook_target.proofs.Correlating.{reversal, sum_reversed}
use Rattle.codebook_target.proofs.raw_correlations.Goals as goal

pub returns : goal.returns
returns c =
    let xs = c.args.target.now in
    let hs = c.args.impulse.now in
    let f = convolution hs (tabulate (reversal xs) 40) in
    made _ (pos 0) (correlated xs hs) 40 _
    (λ k r f' l h. rw (← sum_reversed xs hs k l, ← at_tabulate f (pos 0) 40 (39 - k) (omega arith), ← c.reversed40.ensures, ← c.convolution.ensures) (search rules)) _ c.from_fn.ensures.items
