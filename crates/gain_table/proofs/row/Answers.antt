use Rattle.std.proofs.Common.{◌≡◌, ℕ, arith}
use mir.Syntax.{w16}
use mir.Val.{to_z, of_z}
use borrow.Author.Rules.{rules}
use Rattle.fixed.specs.Lists.{at}
use Rattle.gain_table.specs.Rows.{cell, row}
use Rattle.gain_table.proofs.Rules.{or_zeros}
use Rattle.gain_table.proofs.row.Goals as goal

pub returns : goal.returns
unfolding row
returns c =
    let i = c.args.index in
    let r = c.unwrap_or.result in
    let e : (k : ℕ) → at r k ≡ cell k i =
    λ k. rw (c.unwrap_or.ensures, c.copied.ensures, c.get.ensures.lookup.4 (omega arith), c.table.ensures) (or_zeros _ i k)
    in
    let p : to_z w16 (of_z w16 (at r 0)) ≡ at r 0 = search rules in
    let q : to_z w16 (of_z w16 (at r 1)) ≡ at r 1 = search rules in
    let s : to_z w16 (of_z w16 (at r 2)) ≡ at r 2 = search rules in
    rw (p, q, s, e 0, e 1, e 2)
