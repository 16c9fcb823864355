use mathlib.Core.List.{◌++◌}
use Prim.Native.Nat.{max, ℕ, ◌+◌, ◌<◌}
use native.Mathlib.Omega.{arith}
use mathlib.Core.Path.{◌≡◌, sym, ◌∙◌}
use lib.IntN.{ℤ, pos, nat_abs}
use lib.ListN.{drop, get_or-append, length-append, length-drop, length-set}
use lib.Seq.{ext_get_or}
use mir.Syntax.{w16, w32}
use mir.Val.{to_z, of_z}
use borrow.Author.Rules.{rules}
use Rattle.fixed.proofs.Bounds.{got}
use Rattle.fixed.specs.Operators.{L_mult}
use Rattle.fixed.specs.Lists.{at}
use Rattle.fixed.proofs.Lists.{filled_more}
use Rattle.synthesis_filter.specs.Synthesis.{less_past, synthesized, put_out, with_past}
use Rattle.sums.proofs.Reaches.{peak_le}
use Rattle.synthesis_filter.proofs.Plainly.{below_more}
use Rattle.synthesis_filter.proofs.Samples.{synthesized_same, put_out_length, put_out_past, put_out_before, put_out_last}
use Rattle.synthesis_filter.proofs.with_past.Goals as goal

pub loop-n-init : goal.loop-n-init
loop-n-init c =
    let past = c.args.past.now in
    let rest = drop 10 c.args.samples.now in
    let at_past : (k : ℕ) → k < 10 → at (past ++ rest) k ≡ at past k = λ k l. get_or-append past rest (pos 0) k (omega (arith, c.told-past)) in
    rw c.copy_from_slice.ensures.after (
      length-append past rest ∙ rw (c.told-past, length-drop 10 c.args.samples.now, c.told-samples),
      λ k l. at_past k l ∙ put_out_past c.args.coefficients.now c.args.excitation.now past k l,
      λ k l. rw (at_past k l, c.peak-peak.ensures) (peak_le (at past) 10 k l),
    )

pub loop-n-preserved : goal.loop-n-preserved
unfolding synthesized
loop-n-preserved c =
    let cs = c.args.coefficients.now in
    let xs = c.args.excitation.now in
    let past = c.args.past.now in
    let ys = c.loop-n.samples in
    let n = c.loop-n.n in
    let h : ℕ → ℤ = at (put_out cs xs past (n + 1)) in
    let v : ℤ = to_z w16 (of_z w16 c.rounded-sample.result) in
    let x : to_z w16 (of_z w16 (at xs n)) ≡ at xs n = search rules in
    let y : to_z w32 (of_z w32 c.sum_at-sum.result) ≡ less_past cs ys (10 + n) (L_mult (to_z w16 (of_z w16 (at xs n))) (at cs 0)) 10 = got w32 c.sum_at-sum.type_inv c.sum_at-sum.ensures in
    let q : v ≡ synthesized cs (at xs n) ys (10 + n) = rw (got w16 c.rounded-sample.type_inv c.rounded-sample.ensures, got w32 c.shift.type_inv c.shift.ensures, y, x) in
    let e : v ≡ h (10 + n) = q ∙ synthesized_same cs (at xs n) ys (put_out cs xs past n) (10 + n) (omega arith) c.loop-n.invariant.1 ∙ sym (put_out_last cs xs past n) in
    let m : 10 + n + 1 ≡ 10 + (n + 1) = omega arith in
    let k : c.max-peak.result ≡ max c.loop-n.peak (nat_abs v) = rw (c.max-peak.ensures, c.unsigned_abs.ensures.value) in (
      length-set ys (10 + n) v ∙ c.loop-n.invariant.0,
      rw m at (filled_more h (pos 0) (10 + n) ys v (omega arith) e (λ i l. c.loop-n.invariant.1 i l ∙ sym (put_out_before cs xs past n i l))),
      rw k (rw m at (below_more ys (10 + n) c.loop-n.peak v (omega arith) c.loop-n.invariant.2)),
    )

pub returns : goal.returns
unfolding with_past
returns c =
    let cs = c.args.coefficients.now in
    let xs = c.args.excitation.now in
    let past = c.args.past.now in
    let e : c.loop-n.n ≡ 40 = omega arith in
    let p = rw e at c.loop-n.invariant.1 in
    ext_get_or (pos 0) c.loop-n.samples (put_out cs xs past 40) (c.loop-n.invariant.0 ∙ sym (put_out_length cs xs past 40)) (λ k l. p k (omega arith))
