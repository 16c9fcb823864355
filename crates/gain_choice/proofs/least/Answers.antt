use mathlib.Core.Path.{◌≡◌, ◌∙◌}
use Prim.Native.Nat.{◌+◌, ◌-◌}
use native.Mathlib.Omega.{arith}
use lib.ListN.{length}
use mir.Syntax.{w32}
use mir.Val.{to_z, of_z}
use borrow.Author.Rules.{rules}
use Rattle.std.specs.List.{fold}
use Rattle.std.proofs.lemmas.Iterator.{YieldsList-from_slice}
use Rattle.std.proofs.lemmas.Iterator.Consumers.{fold_from_yields_List}
use Rattle.fixed.specs.Lists.{at}
use Rattle.fixed.proofs.Bounds.{got}
use Rattle.gain_choice.specs.Rows.{nearest}
use Rattle.gain_choice.proofs.Passes.{every, lesser, least_of}
use Rattle.gain_choice.proofs.least.Goals as goal

pub returns : goal.returns
unfolding nearest
returns c =
    let d = c.args.distances.now in
    let m = to_z w32 (of_z w32 (at d 0)) in
    let x : m ≡ at d 0 = search rules in
    let f : c.fold.result ≡ fold lesser m d = fold_from_yields_List _ lesser m c.fold.result c.fold.ensures.ran (YieldsList-from_slice d cc) (λ a x b q k. search rules) in
    let g : c.fold.result ≡ at d (nearest every (at d) (0 + length d - 1)) = f ∙ rw x (least_of (at d) d 0 (λ k l. let o : 0 + k ≡ k = omega arith in rw o)) in
    let n : 0 + length d - 1 ≡ 127 = omega arith in
    got w32 c.fold.type_inv (rw n at g)
