use Rattle.std.proofs.Common.{◌≡◌, ℕ, ◌+◌, ◌-◌, ◌<◌, ◌≤◌, List, ℤ, pos, ◌+ℤ◌, ◌*ℤ◌, refl, sym, ap, ◌∙◌, w16, w32, to_z, of_z, arith, rules}
use lib.ListN.{set, length-set}
use mir.Facts.{to_z-of_z}
use Rattle.fixed.specs.Operators.{round}
use Rattle.fixed.specs.Lists.{at, between}
use Rattle.fixed.proofs.Bounds.{got, fits_abs}
use Rattle.fixed.proofs.Lists.{Filled, zeros, at_end, placed_more, at_tabulate}
use Rattle.codebook_matrix.specs.Matrices.{signed, entry, row, correlations}
use Rattle.codebook_matrix.proofs.Entries.{mirror, row_signed}
use Rattle.codebook_matrix.proofs.Filling as filling
use Rattle.codebook_matrix.proofs.Sliding.{sum_at, none_yet, one_more, term_done, sum_small, value_is}
use Rattle.codebook_matrix.proofs.plain_correlations.Goals.{After-exact}
use Rattle.codebook_matrix.proofs.plain_correlations.Goals as goal

-- term k at place k + i
term : (c : After-exact) → to_z w32 (of_z w32 (at c.loop-i.sums (c.loop-k.k + c.loop-i.i))) ≡ at c.loop-i.sums (c.loop-k.k + c.loop-i.i) →
    to_z w32 (of_z w32 (at c.loop-i.sums (c.loop-k.k + c.loop-i.i))) +ℤ to_z w32 (of_z w32 c.exact.result)
    ≡ sum_at c.args.normalized.now (c.loop-k.k + 1) (c.loop-k.k + c.loop-i.i)
term c y =
    let ns = c.args.normalized.now in
    let k = c.loop-k.k in
    let i = c.loop-i.i in
    let sums = c.loop-i.sums in
    let r = c.reversed40-reversed.result in
    let held : at sums (k + i) ≡ sum_at ns k (k + i) = c.loop-i.invariant.1 (k + i) (omega arith) ∙ at_end (sum_at ns (k + 1)) (sum_at ns k) k (k + i) in
    let w : to_z w16 (of_z w16 (at ns k)) ≡ at ns k = search rules in
    let q : to_z w16 (of_z w16 (at r i)) ≡ at r i = search rules in
    let x : at r i ≡ at ns (39 - i) = ap (λ (xs : List ℤ). at xs i) c.reversed40-reversed.ensures ∙ at_tabulate (λ j. at ns (39 - j)) (pos 0) 40 i (omega arith) in
    rw (y, held, got w32 c.exact.type_inv c.exact.ensures, w, q, x) (sym (one_more ns k i (omega arith) (omega arith)))

-- every sum has its term k
summed : (ns : List ℤ) (k i : ℕ) (sums : List ℤ) → k < 40 → i ≡ 40 → Filled (between (sum_at ns (k + 1)) (sum_at ns k) k (k + i)) (pos 0) 80 sums →
    Filled (sum_at ns (k + 1)) (pos 0) 80 sums
summed ns k i sums h e f = term_done ns k sums h (rw e at f)

pub loop-k-init : goal.loop-k-init
loop-k-init c =
    let ns = c.args.normalized.now in
    (refl, λ x l. zeros 80 x l ∙ sym (none_yet ns x), filling.nothing_filled (entry ns c.args.signs.words.now) (mirror ns c.args.signs.words.now))

pub overflow_add-sums-in-loop-i : goal.overflow_add-sums-in-loop-i
overflow_add-sums-in-loop-i c =
    rw (term (goal.at.overflow_add-sums-in-loop-i c).After-exact (search rules)) (fits_abs w32 _ (omega (arith, sum_small c.args.normalized.now (c.loop-k.k + 1) (c.loop-k.k + c.loop-i.i) (omega arith) (omega arith), c.requires)))

pub loop-i-preserved : goal.loop-i-preserved
loop-i-preserved c =
    let ns = c.args.normalized.now in
    let k = c.loop-k.k in
    let i = c.loop-i.i in
    let v : ℤ = to_z w32 (of_z w32 (to_z w32 (of_z w32 (at c.loop-i.sums (k + i))) +ℤ to_z w32 (of_z w32 c.exact.result))) in
    let q : k + (i + 1) ≡ k + i + 1 = omega arith in (
      length-set c.loop-i.sums (k + i) v ∙ c.loop-i.invariant.0,
      rw q (placed_more (sum_at ns (k + 1)) (sum_at ns k) k (k + i) 80 c.loop-i.sums v (omega arith) (omega (arith, c.loop-i.invariant.0)) (to_z-of_z (overflow_add-sums-in-loop-i c) ∙ term (goal.at.loop-i-preserved c).After-exact (search rules)) c.loop-i.invariant.1),
    )

pub rounded-rounded-requires : goal.rounded-rounded-requires
rounded-rounded-requires c =
    let k = c.loop-k.k in (
      omega arith,
      λ i u. rw (summed c.args.normalized.now c.loop-k.k c.loop-i.i c.loop-i.sums (omega arith) (omega arith) c.loop-i.invariant.1 (k + i) (omega arith)) (omega (arith, sum_small c.args.normalized.now (k + 1) (k + i) (omega arith) (omega arith), c.requires)),
    )

pub loop-i-2-preserved : goal.loop-i-2-preserved
loop-i-2-preserved c =
    let ns = c.args.normalized.now in
    let ss = c.args.signs.words.now in
    let k = c.loop-k.k in
    let i = c.loop-i-2.i in
    let h : k < 40 = omega arith in
    let o : i ≤ 39 - k = omega arith in
    let m : i < 40 = omega arith in
    let rs = c.rounded-rounded.result in
    let ws = c.signed_row-values.result in
    let d : ℤ = to_z w16 (of_z w16 (at rs (39 - k))) in
    let vs = set ws (39 - k) d in
    let v : ℤ = to_z w16 (of_z w16 (at vs i)) in
    let y : at rs i ≡ round (pos 2 *ℤ sum_at ns (k + 1) (k + i)) =
    ap (λ (xs : List ℤ). at xs i) c.rounded-rounded.ensures ∙ at_tabulate (λ i. round (pos 2 *ℤ at c.loop-i.sums (k + i))) (pos 0) 40 i m
    ∙ ap (λ (z : ℤ). round (pos 2 *ℤ z)) (summed c.args.normalized.now c.loop-k.k c.loop-i.i c.loop-i.sums (omega arith) (omega arith) c.loop-i.invariant.1 (k + i) (omega arith))
    in
    let x : v ≡ at vs i = search rules in
    let z : d ≡ at rs (39 - k) = search rules in
    let e : v ≡ entry ns ss i (39 - k) =
    x ∙ ap (λ (xs : List ℤ). at xs i) (row_signed rs ss ws (39 - k) d (omega arith) z c.signed_row-values.ensures)
    ∙ at_tabulate (λ i. signed ss i (39 - k) (at rs i)) (pos 0) 40 i m ∙ ap (signed ss i (39 - k)) y ∙ value_is ns ss (omega (arith, c.requires)) k h i o
    in
    filling.one_more (entry ns ss) (mirror ns ss) c.loop-i-2.table (39 - k) i v o (omega arith) e c.loop-i-2.invariant

pub loop-k-preserved : goal.loop-k-preserved
loop-k-preserved c =
    let ns = c.args.normalized.now in
    let ss = c.args.signs.words.now in
    (c.loop-i.invariant.0, summed c.args.normalized.now c.loop-k.k c.loop-i.i c.loop-i.sums (omega arith) (omega arith) c.loop-i.invariant.1, filling.row_done (entry ns ss) (mirror ns ss) c.loop-i-2.table c.loop-k.k c.loop-i-2.i (omega arith) (omega arith) c.loop-i-2.invariant)

pub returns : goal.returns
unfolding correlations row
returns c =
    let ns = c.args.normalized.now in
    let ss = c.args.signs.words.now in
    let e : c.loop-k.k ≡ 40 = omega arith in
    filling.all_filled (entry ns ss) (mirror ns ss) c.loop-k.table (rw e at c.loop-k.invariant.2)
