use Rattle.std.proofs.Common.{◌≡◌, ◌+◌, ◌-◌, ℤ, refl, ◌∙◌, w16, w32, to_z, of_z, arith, rules}
use lib.ListN.{length-set}
use Rattle.fixed.specs.Operators.{L_mac}
use Rattle.fixed.specs.Lists.{at}
use Rattle.fixed.proofs.Bounds.{got}
use Rattle.fixed.proofs.Lists.{at_end, placed_more}
use Rattle.sums.proofs.Rows.{taken, none_taken, term_more, row_done, waiting}
use Rattle.codebook_matrix.specs.Matrices.{entry, row, correlations}
use Rattle.codebook_matrix.proofs.Entries.{mirror, term, terms, entry_known}
use Rattle.codebook_matrix.proofs.Filling as filling
use Rattle.codebook_matrix.proofs.clipped_correlations.Goals as goal

pub loop-k-init : goal.loop-k-init
loop-k-init c =
    let ns = c.args.normalized.now in
    (refl, none_taken (term ns) terms 40, filling.nothing_filled (entry ns c.args.signs.now) (mirror ns c.args.signs.now))

pub loop-d-preserved : goal.loop-d-preserved
unfolding L_mac
loop-d-preserved c =
    let ns = c.args.normalized.now in
    let g = term ns in
    let k = c.loop-k.k in
    let d = c.loop-d.d in
    let sums = c.loop-d.sums in
    let v : ℤ = to_z w32 (of_z w32 c.mac.result) in
    let y : to_z w32 (of_z w32 (at sums d)) ≡ at sums d = search rules in
    let x : to_z w16 (of_z w16 (at ns k)) ≡ at ns k = search rules in
    let h : to_z w16 (of_z w16 (at ns (k + d))) ≡ at ns (k + d) = search rules in
    let held : at sums d ≡ taken g terms k d = c.loop-d.invariant.1 d (omega arith) ∙ at_end (taken g terms (k + 1)) (taken g terms k) 0 d in
    let e : v ≡ taken g terms (k + 1) d = rw (got w32 c.mac.type_inv c.mac.ensures, y, x, h, held) (term_more g terms k d (omega arith)) in (
      length-set sums d v ∙ c.loop-d.invariant.0,
      placed_more (taken g terms (k + 1)) (taken g terms k) 0 d 40 sums v (omega arith) (omega arith) e c.loop-d.invariant.1,
    )

pub loop-i-preserved : goal.loop-i-preserved
loop-i-preserved c =
    let ns = c.args.normalized.now in
    let ss = c.args.signs.now in
    let k = c.loop-k.k in
    let i = c.loop-i.i in
    let sums = c.loop-d.sums in
    let v : ℤ = to_z w16 (of_z w16 c.signed-value.result) in
    let x : to_z w32 (of_z w32 (at sums (39 - k - i))) ≡ at sums (39 - k - i) = search rules in
    let q : c.loop-d.d ≡ 40 - k = omega arith in
    let y : at sums (39 - k - i) ≡ taken (term ns) terms (k + 1) (39 - k - i) =
    row_done (term ns) terms k 0 (40 - k) 40 sums (waiting 40 k) (rw q at c.loop-d.invariant.1) (39 - k - i) (omega arith)
    in
    let e : v ≡ entry ns ss i (39 - k) = rw (got w16 c.signed-value.type_inv c.signed-value.ensures, got w16 c.rounded.type_inv c.rounded.ensures, x, y) (entry_known ns ss k i (omega arith) (omega arith)) in
    filling.one_more (entry ns ss) (mirror ns ss) c.loop-i.table (39 - k) i v (omega arith) (omega arith) e c.loop-i.invariant

pub returns : goal.returns
unfolding correlations row
returns c =
    let ns = c.args.normalized.now in
    let ss = c.args.signs.now in
    let e : c.loop-k.k ≡ 40 = omega arith in
    filling.all_filled (entry ns ss) (mirror ns ss) c.loop-k.table (rw e at c.loop-k.invariant.2)
