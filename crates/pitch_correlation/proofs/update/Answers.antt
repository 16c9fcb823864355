use mathlib.Core.Bool.{Bool, true, false}
use mathlib.Core.List.{List}
use mathlib.Core.Path.{◌≡◌, refl, ◌∙◌}
use Prim.Native.Nat.{ℕ, ◌≤◌, ◌<◌}
use native.Mathlib.Omega.{arith}
use borrow.Author.Rules.{rules}
use borrow.Author.Tests.{eqb-true, eqb-false}
use lib.Dec.{eqb}
use lib.IntN.{ℤ, pos}
use lib.ListN.{length, length-set, get_or, set}
use lib.Seq.{get_or-set_same, get_or-set_other}
use mir.Facts.{to_z-of_z}
use mir.Syntax.{w16}
use mir.Val.{of_z, to_z}
use Rattle.fixed.specs.Lists.{at, tabulate}
use Rattle.fixed.proofs.Bounds.{got}
use Rattle.fixed.proofs.Lists.{Filled, filled_all, none_placed, placed_more, at_end, below_end, at_tabulate, length_tabulate}
use Rattle.pitch_correlation.specs.Correlations.{update_at, update}
use Rattle.pitch_correlation.proofs.Filterings.{shift_held, moved_at, alike_at, update_past}
use Rattle.pitch_correlation.proofs.update.Goals as goal

-- a list whose first place is put in last
first_last : (u : ℕ → ℤ) (n : ℕ) (xs : List ℤ) (v : ℤ) → 0 < length xs → v ≡ u 0 → ((k : ℕ) → 1 ≤ k → k < n → at xs k ≡ u k) → Filled u (pos 0) n (set xs 0 v)
first_last u n xs v h e p k l = go (eqb k 0) refl
  where
    go : (t : Bool) → eqb k 0 ≡ t → get_or (set xs 0 v) k (pos 0) ≡ u k
    go true q = rw (eqb-true k 0 q) (get_or-set_same xs 0 v (pos 0) h ∙ e)
    go false q = let o = eqb-false k 0 q in get_or-set_other xs 0 k v (pos 0) o ∙ p k (omega (arith, o)) l

pub loop-j-init : goal.loop-j-init
loop-j-init c =
    let a = c.args in
    let old = moved_at a.filtered.now in
    let new = alike_at a.loud a.impulse.now (to_z w16 (of_z w16 a.sample)) a.filtered.now in
    rw c.moved-next.ensures (length_tabulate old (pos 0) 40, none_placed new old 0 40 (tabulate old 40) (λ k h. at_tabulate old (pos 0) 40 k h))

pub loop-j-preserved : goal.loop-j-preserved
loop-j-preserved c =
    let a = c.args in
    let j = c.loop-j.j in
    let old = moved_at a.filtered.now in
    let new = alike_at a.loud a.impulse.now (to_z w16 (of_z w16 a.sample)) a.filtered.now in
    let v : ℤ = to_z w16 (of_z w16 c.add.result) in
    let h : to_z w16 (of_z w16 (at a.impulse.now j)) ≡ at a.impulse.now j = search rules in
    let l : j < 40 = omega arith in
    let r : to_z w16 (of_z w16 (at c.loop-j.next j)) ≡ at c.loop-j.next j = search rules in
    let g : to_z w16 (of_z w16 (at c.loop-j.next j)) ≡ old j = r ∙ c.loop-j.invariant.1 j l ∙ at_end new old 0 j in
    let e : v ≡ new j = rw (got w16 c.add.type_inv c.add.ensures, got w16 c.product_high.type_inv c.product_high.ensures, h, g, c.filter_shift-shift.ensures, shift_held a.loud) in (
      length-set c.loop-j.next j v ∙ c.loop-j.invariant.0,
      placed_more new old 0 j 40 c.loop-j.next v (omega arith) (omega arith) e c.loop-j.invariant.1,
    )

pub returns : goal.returns
unfolding update update_at
returns c =
    let a = c.args in
    let e : c.loop-j.j ≡ 40 = omega arith in
    let v : ℤ = to_z w16 (of_z w16 a.sample) in
    let old = moved_at a.filtered.now in
    let new = alike_at a.loud a.impulse.now v a.filtered.now in
    let u = update_at a.loud a.impulse.now v a.filtered.now in
    let w : ℤ = to_z w16 (of_z w16 c.scaled.result) in
    let rest : (k : ℕ) → 1 ≤ k → k < 40 → at c.loop-j.next k ≡ u k =
    λ k h l.
    (rw e at c.loop-j.invariant.1) k l ∙ below_end new old 40 k l ∙ update_past a.loud a.impulse.now v a.filtered.now k h l
    in
    rw (to_z-of_z c.ranges.sample) at
    (filled_all u (pos 0) 40 (set c.loop-j.next 0 w) (length-set c.loop-j.next 0 w ∙ c.loop-j.invariant.0) (first_last u 40 c.loop-j.next w (omega (arith, c.loop-j.invariant.0)) (got w16 c.scaled.type_inv c.scaled.ensures) rest))
