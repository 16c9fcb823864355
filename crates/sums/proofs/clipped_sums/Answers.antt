use mathlib.Core.Path.{◌≡◌, refl, ◌∙◌}
use Prim.Native.Nat.{suc, ◌+◌, ◌-◌}
use native.Mathlib.Omega.{arith}
use borrow.Author.Rules.{rules}
use lib.IntN.{ℤ, pos}
use lib.ListN.{length-set}
use mir.Syntax.{w16, w32}
use mir.Val.{to_z, of_z}
use Rattle.fixed.specs.Operators.{L_mac}
use Rattle.fixed.specs.Lists.{at, L_sum}
use Rattle.fixed.proofs.Bounds.{got}
use Rattle.fixed.proofs.Lists.{filled_all, at_end, placed_more}
use Rattle.sums.specs.Convolutions.{convolution}
use Rattle.sums.proofs.Rows.{taken, none_taken, term, term_more, all_taken}
use Rattle.sums.proofs.clipped_sums.Goals as goal

pub loop-i-init : goal.loop-i-init
loop-i-init c = (omega arith, refl, none_taken (term c.args.input.now c.args.impulse.now) suc 40)

pub loop-n-preserved : goal.loop-n-preserved
unfolding L_mac
loop-n-preserved c =
    let xs = c.args.input.now in
    let hs = c.args.impulse.now in
    let g = term xs hs in
    let i = c.loop-i.i in
    let n = c.loop-n.n in
    let v : ℤ = to_z w32 (of_z w32 c.mac.result) in
    let held : at c.loop-n.sums n ≡ taken g suc i n = c.loop-n.invariant.4 n (omega arith) ∙ at_end (taken g suc (i + 1)) (taken g suc i) i n in
    let y : to_z w32 (of_z w32 (at c.loop-n.sums n)) ≡ at c.loop-n.sums n = search rules in
    let x : to_z w16 (of_z w16 (at xs i)) ≡ at xs i = search rules in
    let h : to_z w16 (of_z w16 (at hs (n - i))) ≡ at hs (n - i) = search rules in
    let e : v ≡ taken g suc (i + 1) n = rw (got w32 c.mac.type_inv c.mac.ensures, y, x, h, held) (term_more g suc i n (omega arith)) in (
      c.loop-n.invariant.0,
      omega arith,
      omega arith,
      length-set c.loop-n.sums n v ∙ c.loop-n.invariant.3,
      placed_more (taken g suc (i + 1)) (taken g suc i) i n 40 c.loop-n.sums v c.loop-n.invariant.1 (omega arith) e c.loop-n.invariant.4,
    )

pub returns : goal.returns
unfolding convolution
returns c =
    let g = term c.args.input.now c.args.impulse.now in
    let e : c.loop-i.i ≡ 40 = omega arith in
    filled_all (λ n. L_sum (pos 0) (g n) (suc n)) (pos 0) 40 c.loop-i.sums c.loop-i.invariant.1
    (all_taken g suc 40 40 c.loop-i.sums (λ n h. h) (rw e at c.loop-i.invariant.2))
