use mathlib.Core.Path.{◌≡◌, refl}
use Prim.Native.Nat.{ℕ, ◌-◌}
use native.Mathlib.Omega.{arith}
use lib.IntN.{ℤ, pos}
use lib.ListN.{replicate}
use Rattle.fixed.specs.Lists.{at, between}
use Rattle.fixed.proofs.Lists.{filled_all, none_placed, zeros}
use Rattle.pitch_correlation.proofs.moved.Goals as goal

pub loop-j-init : goal.loop-j-init
loop-j-init c = (refl, none_placed (λ k. at c.args.filtered.now (k - 1)) (λ k. pos 0) 1 40 (replicate 40 (pos 0)) (zeros 40))

pub returns : goal.returns
returns c =
    let f : ℕ → ℤ = λ k. at c.args.filtered.now (k - 1) in
    let e : c.loop-j.j ≡ 40 = omega arith in
    filled_all (between f (λ k. pos 0) 1 40) (pos 0) 40 c.loop-j.words c.loop-j.invariant.0 (rw e at c.loop-j.invariant.1)
