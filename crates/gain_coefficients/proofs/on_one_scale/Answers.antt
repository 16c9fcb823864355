use mathlib.Core.Path.{◌≡◌, sym, ◌∙◌}
use borrow.Author.Rules.{rules}
use lib.IntN.{pos}
use lib.ListN.{get_or}
use mir.Syntax.{w16}
use mir.Val.{to_z, of_z}
use Rattle.std.specs.List.{fold}
use Rattle.std.proofs.lemmas.Iterator.{YieldsList-from_slice}
use Rattle.std.proofs.lemmas.Iterator.Consumers.{fold_from_yields_List}
use Rattle.fixed.specs.Operators.{add}
use Rattle.fixed.proofs.Bounds.{got}
use Rattle.fixed.proofs.Made.{made}
use Rattle.gain_pitch.specs.declared.ScaledWord.{ScaledWord}
use Rattle.gain_coefficients.specs.Energies.{coefficient, e_max, levelled}
use Rattle.gain_coefficients.proofs.Scales.{greater, folded, scaled}
use Rattle.gain_coefficients.proofs.on_one_scale.Goals as goal

-- what a place past the end reads
abbrev none : ScaledWord
none = coefficient (pos 0) (pos 0)

pub returns : goal.returns
returns c =
    let cs = c.args.list.now in
    let m = to_z w16 (of_z w16 (get_or cs 0 none).exponent) in
    let x : m ≡ (get_or cs 0 none).exponent = search rules in
    let f : c.fold-greatest.result ≡ fold greater m cs = fold_from_yields_List _ greater m c.fold-greatest.result c.fold-greatest.ensures.ran (YieldsList-from_slice cs cc) (λ a y b q k. search rules) in
    let g : to_z w16 (of_z w16 c.fold-greatest.result) ≡ e_max (get_or cs 0 none).exponent cs = got w16 c.fold-greatest.type_inv (rw x at (f ∙ folded cs m)) in
    made _ (pos 0) (λ k. levelled (add (e_max (get_or cs 0 none).exponent cs) (pos 1)) (get_or cs k none)) 5 _
    (λ k r f' l h. rw (← g, ← c.add-top.ensures) (search rules)) _ c.from_fn.ensures.items
    ∙ sym (scaled cs 4 none c.told-list)
