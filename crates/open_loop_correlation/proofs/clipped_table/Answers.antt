use mathlib.Core.Path.{◌≡◌, refl, ◌∙◌}
use native.Mathlib.Omega.{arith}
use Prim.Native.Nat.{◌+◌, ◌-◌}
use lib.IntN.{pos}
use lib.ListN.{replicate}
use Rattle.fixed.specs.Lists.{between}
use Rattle.fixed.proofs.Lists.{filled_all, none_placed, zeros}
use Rattle.open_loop_correlation.specs.Correlations.{correlation}
use Rattle.open_loop_correlation.proofs.Lags.{placed_part}
use Rattle.open_loop_correlation.proofs.clipped_table.Goals as goal

pub loop-lag-init : goal.loop-lag-init
loop-lag-init c =
    (omega arith, omega arith, refl, (refl, none_placed (correlation c.args.words.now) (λ k. pos 0) 20 144 (replicate 144 (pos 0)) (zeros 144)))

pub loop-lag-preserved : goal.loop-lag-preserved
loop-lag-preserved c =
    let i = c.loop-lag.invariant in
    let m = c.loop-lag.lag in
    let e : m + 4 - m ≡ 4 = omega arith in
    let s = c.copy_from_slice.ensures.after ∙ c.four_at.ensures in
    (omega arith, omega (arith, i.2), omega (arith, i.2), placed_part c.args.words.now m 4 (m + 4 - m) c.loop-lag.table c.copy_from_slice.new.self e i.0 (omega (arith, i.2)) s i.3)

pub returns : goal.returns
returns c =
    let e : c.loop-lag.lag ≡ 144 = omega (arith, c.loop-lag.invariant.1) in
    let p = rw e at c.loop-lag.invariant.3 in
    filled_all (between (correlation c.args.words.now) (λ k. pos 0) 20 144) (pos 0) 144 c.loop-lag.table p.0 p.1
