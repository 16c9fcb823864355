use mathlib.Core.Path.{◌≡◌, refl}
use native.Mathlib.Omega.{arith}
use lib.IntN.{pos}
use lib.ListN.{replicate}
use Rattle.fixed.specs.Lists.{between}
use Rattle.fixed.proofs.Lists.{filled_all, none_placed, zeros}
use Rattle.open_loop_correlation.specs.Correlations.{correlation}
use Rattle.open_loop_correlation.proofs.plain_table.Goals as goal

pub loop-lag-init : goal.loop-lag-init
loop-lag-init c = (refl, none_placed (correlation c.args.words.now) (λ k. pos 0) 20 144 (replicate 144 (pos 0)) (zeros 144))

pub returns : goal.returns
returns c =
    let e : c.loop-lag.lag ≡ 144 = omega arith in
    let p = rw e at c.loop-lag.invariant in
    filled_all (between (correlation c.args.words.now) (λ k. pos 0) 20 144) (pos 0) 144 c.loop-lag.table p.0 p.1
