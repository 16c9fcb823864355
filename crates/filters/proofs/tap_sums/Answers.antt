use mathlib.Core.Path.{◌≡◌, refl, ◌∙◌}
use Prim.Native.Nat.{ℕ, ◌-◌, ◌+◌}
use lib.IntN.{ℤ, pos}
use lib.ListN.{length-set}
use mir.Syntax.{w16, w32}
use mir.Val.{to_z, of_z}
use Rattle.fixed.proofs.Bounds.{got}
use Rattle.fixed.specs.Lists.{at, L_sum}
use Rattle.fixed.proofs.Lists.{filled_all, zeros, at_end, placed_more}
use Rattle.filters.specs.Filters.{taps_to}
use Rattle.filters.proofs.Tappings.{taps_more}
use borrow.Author.Rules.{rules}
use native.Mathlib.Omega.{arith}
use Rattle.filters.proofs.tap_sums.Goals as goal

pub loop-tap-init : goal.loop-tap-init
unfolding taps_to L_sum
loop-tap-init c = (refl, zeros 40)

pub loop-i-preserved : goal.loop-i-preserved
loop-i-preserved c =
    let cs = c.args.coefficients.now in
    let xs = c.args.samples.now in
    let n = c.loop-tap.tap in
    let i = c.loop-i.i in
    let f : ℕ → ℕ → ℤ = λ m k. taps_to cs xs k m in
    let v : ℤ = to_z w32 (of_z w32 c.mac.result) in
    let h : to_z w32 (of_z w32 (at c.loop-i.sums i)) ≡ at c.loop-i.sums i = search rules in
    let x : to_z w16 (of_z w16 (at xs (10 + i - n))) ≡ at xs (10 + i - n) = search rules in
    let y : to_z w16 (of_z w16 (at cs n)) ≡ at cs n = search rules in
    let held : at c.loop-i.sums i ≡ f n i = c.loop-i.invariant.1 i (omega arith) ∙ at_end (f (n + 1)) (f n) 0 i in
    let e : v ≡ f (n + 1) i = rw (got w32 c.mac.type_inv c.mac.ensures, x, y, h, held) (taps_more cs xs i n) in
    (length-set c.loop-i.sums i v ∙ c.loop-i.invariant.0, placed_more (f (n + 1)) (f n) 0 i 40 c.loop-i.sums v (omega arith) (omega arith) e c.loop-i.invariant.1)

pub returns : goal.returns
returns c =
    let e : c.loop-tap.tap ≡ 11 = omega arith in
    filled_all (λ k. taps_to c.args.coefficients.now c.args.samples.now k 11) (pos 0) 40 c.loop-tap.sums c.loop-tap.invariant.0 (rw e at c.loop-tap.invariant.1)
