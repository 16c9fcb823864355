use mathlib.Core.Path.{◌≡◌, sym, ◌∙◌}
use mathlib.Core.Bool.{true, false}
use Prim.Native.Nat.{◌+◌, ◌<◌}
use lib.Signed.{lt_z}
use mir.Syntax.{w16}
use mir.Val.{to_z, of_z}
use borrow.Author.Rules.{rules}
use Rattle.encoder_stability.specs.Watch.{gap}
use Rattle.encoder_stability.proofs.Gaps.{next_gap}
use Rattle.encoder_stability.proofs.any_gap_below.Goals as goal

pub returns-then-sub-bound : goal.returns-then-sub-bound
returns-then-sub-bound c =
    let xs = c.args.lsp.now in
    let i = c.loop-i.i in
    let end = c.args.first + c.args.count in
    let word : to_z w16 (of_z w16 c.args.bound) ≡ c.args.bound = search rules in
    let inside : i < end = search rules in
    let below : lt_z (gap xs i) c.args.bound ≡ true = search rules in
    sym (rw word at c.loop-i.invariant ∙ next_gap c.args.bound xs i end inside ∙ rw below)

pub loop-i-preserved : goal.loop-i-preserved
loop-i-preserved c =
    let xs = c.args.lsp.now in
    let i = c.loop-i.i in
    let end = c.args.first + c.args.count in
    let bound = to_z w16 (of_z w16 c.args.bound) in
    let inside : i < end = search rules in
    let not_below : lt_z (gap xs i) bound ≡ false = search rules in
    c.loop-i.invariant ∙ next_gap bound xs i end inside ∙ rw not_below
