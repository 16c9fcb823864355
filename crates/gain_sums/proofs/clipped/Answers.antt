use mathlib.Core.Path.{◌≡◌, refl, ap, ◌∙◌}
use mathlib.Core.Bool.{cond}
use Prim.Native.Nat.{ℕ, ◌+◌}
use native.Mathlib.Omega.{arith}
use native.Mathlib.Numerals.{add-one}
use borrow.Author.Rules.{rules}
use mir.Syntax.{w16, w32}
use mir.Val.{to_z, of_z, bool_byte}
use Rattle.fixed.specs.Operators.{L_mac, L_mac_overflow, L_mac_flagged}
use Rattle.fixed.specs.Lists.{at, L_sum}
use Rattle.fixed.specs.declared.Flagged.{Flagged}
use Rattle.gain_sums.specs.Sums.{sum, clips as clips_of, counted_sum}
use Rattle.gain_sums.proofs.Counts.{clips_le, told_flagged, bit_is, byte_fits}
use Rattle.gain_sums.proofs.clipped.Goals as goal

pub loop-i-init : goal.loop-i-init
unfolding sum L_sum clips_of
loop-i-init c = record { value_is = refl; clips_are = refl }

pub overflow_add-clips : goal.overflow_add-clips
overflow_add-clips c =
    let l = clips_le c.args.left.now c.args.right.now c.loop-i.i in
    byte_fits _ (rw c.loop-i.invariant.clips_are l) c.loop-i-test.true

pub loop-i-preserved : goal.loop-i-preserved
unfolding sum L_sum clips_of L_mac_flagged L_mac
loop-i-preserved c =
    let l = c.args.left.now in
    let r = c.args.right.now in
    let i = c.loop-i.i in
    let v : to_z w32 (of_z w32 c.mac_flagged-step.result.value) ≡ c.mac_flagged-step.result.value = search rules in
    let x : to_z w16 (of_z w16 (at l i)) ≡ at l i = search rules in
    let y : to_z w16 (of_z w16 (at r i)) ≡ at r i = search rules in
    let e : c.mac_flagged-step.result ≡ L_mac_flagged (sum l r i) (at l i) (at r i) = c.mac_flagged-step.ensures ∙ rw (c.loop-i.invariant.value_is, x, y) in
    let b : bool_byte c.mac_flagged-step.result.overflow ≡ cond (L_mac_overflow (sum l r i) (at l i) (at r i)) 1 0 =
    bit_is c.mac_flagged-step.result.overflow ∙ ap (λ (f : Flagged). cond f.overflow 1 0) e
    in
    record {
      value_is = v ∙ rw (add-one i) (ap (λ (f : Flagged). f.value) e);
      clips_are = rw (add-one i, c.loop-i.invariant.clips_are) (ap (λ (n : ℕ). clips_of l r i + n) b);
    }

pub returns-clause-counted : goal.returns-clause-counted
unfolding counted_sum
returns-clause-counted c =
    let e : c.loop-i.i ≡ 40 = omega arith in
    rw (c.loop-i.invariant.value_is, c.loop-i.invariant.clips_are, e)

pub returns-clause-flagged : goal.returns-clause-flagged
returns-clause-flagged c = told_flagged c.args.left.now c.args.right.now 40 _ (returns-clause-counted c)
