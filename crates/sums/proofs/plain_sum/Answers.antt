use mathlib.Core.Path.{◌≡◌, refl, ap, ◌∙◌}
use mathlib.Core.List.{List}
use Prim.Native.Nat.{ℕ, suc, ◌≤◌, ◌<◌, ◌+◌, ◌^◌}
use native.Mathlib.Omega.{arith}
use native.Mathlib.Numerals.{add-one}
use lib.IntN.{ℤ, pos, nat_abs, ◌+ℤ◌, ◌*ℤ◌}
use borrow.Author.Rules.{rules}
use mir.Syntax.{w16, w32}
use mir.Val.{SFits, to_z, of_z}
use mir.Facts.{to_z-of_z}
use Rattle.fixed.specs.Lists.{at}
use Rattle.fixed.proofs.Bounds.{got, fits_abs, abs_mul}
use Rattle.sums.specs.Plain.{plain, weighed}
use Rattle.sums.proofs.Reaches.{plain_le, weighed_more}
use Rattle.sums.proofs.plain_sum.Goals as goal

-- the terms, by their places
abbrev words : List ℤ → ℕ → ℕ → ℤ
words rs from k = at rs (from + k)

-- no sum of the first terms passes a long's ends
below : (x y : ℕ → ℤ) (k : ℕ) → k ≤ 40 → weighed x y 40 < 2 ^ 30 → nat_abs (plain x y k) < 2 ^ 30
below x y k h b = omega (arith, plain_le x y k, weighed_more x y k 40 h)

-- a term more
one_more : (x y : ℕ → ℤ) (k : ℕ) (s p : ℤ) → s ≡ plain x y k → p ≡ x k *ℤ y k → s +ℤ p ≡ plain x y (suc k)
unfolding plain
one_more x y k s p e f = rw (e, f)

fits : (x y : ℕ → ℤ) (k : ℕ) (s p : ℤ) → k < 40 → weighed x y 40 < 2 ^ 30 → s ≡ plain x y k → p ≡ x k *ℤ y k → SFits w32 (s +ℤ p)
fits x y k s p h b e f = rw (one_more x y k s p e f) (fits_abs w32 _ (omega (arith, below x y (suc k) (omega arith) b)))

doubled : (x y : ℕ → ℤ) (k : ℕ) (s : ℤ) → k ≤ 40 → weighed x y 40 < 2 ^ 30 → s ≡ plain x y k → SFits w32 (pos 2 *ℤ s)
doubled x y k s h b e = rw e (fits_abs w32 (pos 2 *ℤ plain x y k) (rw (abs_mul (pos 2) (plain x y k)) (omega (arith, below x y k h b))))

pub loop-k-init : goal.loop-k-init
unfolding plain
loop-k-init c = (c.requires.0, refl)

product : (c : goal.After-exact-sum) → to_z w32 (of_z w32 c.exact-sum.result) ≡ at c.args.input.now c.loop-k.k *ℤ words c.args.reversed.now c.args.from c.loop-k.k
product c =
    let x = c.args.input.now in
    let y = c.args.reversed.now in
    let k = c.loop-k.k in
    let a : to_z w16 (of_z w16 (at x k)) ≡ at x k = search rules in
    let b : to_z w16 (of_z w16 (at y (c.args.from + k))) ≡ at y (c.args.from + k) = search rules in
    got w32 c.exact-sum.type_inv c.exact-sum.ensures ∙ rw (a, b)

pub overflow_add-sum : goal.overflow_add-sum
overflow_add-sum c =
    fits (at c.args.input.now) (words c.args.reversed.now c.args.from) c.loop-k.k _ _ (omega arith) c.requires.1 c.loop-k.invariant.1 (product c)

pub loop-k-preserved : goal.loop-k-preserved
loop-k-preserved c =
    (c.loop-k.invariant.0, rw (add-one c.loop-k.k) (to_z-of_z (overflow_add-sum c) ∙ one_more (at c.args.input.now) (words c.args.reversed.now c.args.from) c.loop-k.k _ _ c.loop-k.invariant.1 (product c)))

pub overflow_mul-result : goal.overflow_mul-result
overflow_mul-result c = doubled (at c.args.input.now) (words c.args.reversed.now c.args.from) c.loop-k.k _ (omega arith) c.requires.1 c.loop-k.invariant.1

pub returns : goal.returns
returns c =
    let e : c.loop-k.k ≡ 40 = omega arith in
    to_z-of_z (overflow_mul-result c) ∙ ap (λ (z : ℤ). pos 2 *ℤ z) (rw e at c.loop-k.invariant.1)
