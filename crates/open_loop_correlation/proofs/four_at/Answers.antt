use mathlib.Core.Path.{◌≡◌, ◌∙◌}
use Prim.Native.Nat.{◌+◌, ◌-◌, ◌<◌}
use native.Mathlib.Omega.{arith}
use borrow.Author.Rules.{rules}
use lib.IntN.{ℤ, pos}
use lib.ListN.{length-set}
use mir.Syntax.{w16, w32}
use mir.Val.{to_z, of_z}
use Rattle.fixed.specs.Lists.{at}
use Rattle.fixed.proofs.Bounds.{got}
use Rattle.fixed.proofs.Lists.{filled_all, placed_more, at_end}
use Rattle.open_loop_correlation.specs.Correlations.{correlation}
use Rattle.open_loop_correlation.proofs.Lags.{grown, products_more}
use Rattle.open_loop_correlation.proofs.four_at.Goals as goal

pub loop-n-preserved : goal.loop-n-preserved
loop-n-preserved c =
    let xs = c.args.words.now in
    let lag = c.args.lag in
    let i = c.loop-i.i in
    let n = c.loop-n.n in
    let old = grown xs lag i in
    let new = grown xs lag (i + 1) in
    let from = 143 - (lag + n) in
    let v : ℤ = to_z w32 (of_z w32 c.mac.result) in
    let l : n < 4 = omega arith in
    let x : to_z w16 (of_z w16 (at xs (143 + i))) ≡ at xs (143 + i) = search rules in
    let y : to_z w16 (of_z w16 (at xs (from + i))) ≡ at xs (from + i) = search rules in
    let r : to_z w32 (of_z w32 (at c.loop-n.sums n)) ≡ at c.loop-n.sums n = search rules in
    let g : to_z w32 (of_z w32 (at c.loop-n.sums n)) ≡ old n = r ∙ c.loop-n.invariant.2 n l ∙ at_end new old 0 n in
    let e : v ≡ new n = rw (got w32 c.mac.type_inv c.mac.ensures, x, y, g) (products_more xs 143 from i) in (
      c.loop-n.invariant.0,
      length-set c.loop-n.sums n v ∙ c.loop-n.invariant.1,
      placed_more new old 0 n 4 c.loop-n.sums v (omega arith) (omega (arith, c.loop-n.invariant.1)) e c.loop-n.invariant.2,
    )

pub returns : goal.returns
unfolding correlation
returns c =
    let e : c.loop-i.i ≡ 80 = omega arith in
    filled_all (λ n. correlation c.args.words.now (c.args.lag + n)) (pos 0) 4 c.loop-i.sums c.loop-i.invariant.0 (rw e at c.loop-i.invariant.1)
