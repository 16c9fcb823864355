use mathlib.Core.Path.{◌≡◌, ap, ◌∙◌}
use mathlib.Core.Bool.{cond}
use mathlib.Core.List.{List}
use Prim.Native.Nat.{ℕ, zero, suc, ◌<◌, ◌≤◌}
use lib.IntN.{ℤ, pos}
use lib.ListN.{length, set}
use lib.Seq.{get_or-set_same, get_or-set_other}
use lib.Signed.{mag, le_z}
use native.Mathlib.Omega.{arith}
use mir.Syntax.{w32}
use mir.Val.{SFits, to_z, of_z}
use borrow.Author.Rules.{rules}
use Rattle.fixed.specs.Lists.{at, tabulate}
use Rattle.fixed.proofs.Lists.{at_tabulate}
use Rattle.fixed.proofs.Made.{made}
use Rattle.gain_table.specs.Rows.{cell, column}
use Rattle.gain_choice.specs.Rows.{within_limit}
use Rattle.gain_choice.proofs.Passes.{without_limit}
use Rattle.gain_choice.proofs.allowed.Goals as goal

-- longs, and a long in place of the first
small : (xs : List ℤ) (v : ℤ) → 0 < length xs → mag v < 2147483648 → ((k : ℕ) → k < 128 → SFits w32 (at xs k)) →
    (k : ℕ) → k ≤ 127 → mag (at (set xs 0 v) k) < 2147483648
small xs v l s w zero h = rw (get_or-set_same xs 0 v (pos 0) l) s
small xs v l s w (suc k) h = rw (get_or-set_other xs 0 (suc k) v (pos 0) (λ (e : suc k ≡ 0). absurd (omega arith))) (w (suc k) (omega arith)).sfits

pub returns : goal.returns
unfolding column
returns c =
    let far = c.args.far.now in
    let xs = c.from_fn-distances.result in
    let f : ℕ → ℤ = λ k. cond (le_z (at c.args.pitches_q14.now k) c.args.limit_q14) (at far k) (pos 2147483647) in
    let m : xs ≡ tabulate f 128 = made _ (pos 0) f 128 _ (λ k r f' l h. search rules) _ c.from_fn-distances.ensures.items in
    let x : to_z w32 (of_z w32 (at far 0)) ≡ at far 0 = search rules in
    let n : length xs ≡ 128 = c.from_fn-distances.ensures.items.long in
    let p : (k : ℕ) → k ≤ 127 → at c.args.pitches_q14.now k ≡ cell 0 k = λ k l. ap (λ (ys : List ℤ). at ys k) c.requires ∙ at_tabulate (cell 0) (pos 0) 128 k (omega arith) in
    let w : (k : ℕ) → k < 128 → SFits w32 (at xs k) = λ k l. (let h = c.from_fn-distances.ensures.items.at k (pos 0) l in search rules) in
    let b : SFits w32 (at far 0) = search rules in
    rw x
    (without_limit (within_limit c.args.limit_q14) (at far) _ (get_or-set_same xs 0 (at far 0) (pos 0) (omega arith)) 127
    (λ k z l. get_or-set_other xs 0 k (at far 0) (pos 0) (λ (e : k ≡ 0). absurd (omega arith)) ∙ ap (λ (ys : List ℤ). at ys k) m ∙ at_tabulate f (pos 0) 128 k (omega arith) ∙ rw (p k l))
    (small xs (at far 0) (omega arith) b.sfits w))
