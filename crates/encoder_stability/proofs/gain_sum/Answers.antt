use mathlib.Core.Path.{◌≡◌}
use mir.Syntax.{w16}
use mir.Val.{to_z, of_z}
use borrow.Author.Rules.{rules}
use Rattle.std.proofs.Common.{fold}
use Rattle.std.proofs.lemmas.Iterator.{YieldsList-from_slice}
use Rattle.std.proofs.lemmas.Iterator.Consumers.{fold_from_yields_List}
use Rattle.fixed.specs.Operators.{add}
use Rattle.fixed.proofs.Bounds.{got}
use Rattle.encoder_stability.proofs.gain_sum.Goals as goal

pub returns : goal.returns
returns c =
    let gains = c.args.gains.now in
    let first = to_z w16 (of_z w16 c.args.first) in
    let start : first ≡ c.args.first = search rules in
    let sum : c.fold.result ≡ fold add first gains =
    fold_from_yields_List _ add first c.fold.result c.fold.ensures.ran (YieldsList-from_slice gains cc) (λ a x b q k. search rules) in
    got w16 c.fold.type_inv (rw start at sum)
