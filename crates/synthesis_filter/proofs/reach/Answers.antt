use mathlib.Core.Path.{◌≡◌, refl, ap, ◌∙◌}
use mathlib.Core.List.{List}
use Prim.Native.Nat.{ℕ, suc, ◌<◌}
use native.Mathlib.Numerals.{add-one}
use native.Mathlib.Omega.{arith}
use lib.IntN.{ℤ, pos}
use lib.ListN.{take, drop}
use mir.Syntax.{w16}
use mir.Val.{to_z, of_z}
use borrow.Author.Rules.{rules}
use Rattle.std.proofs.lemmas.List.{get_or-take}
use Rattle.std.proofs.lemmas.Grind.{get_or_after_one}
use Rattle.fixed.specs.Lists.{at}
use Rattle.synthesis_filter.specs.Plain.{magnitudes}
use Rattle.synthesis_filter.proofs.reach.Goals as goal

-- after place 0
rest_at : (cs : List ℤ) (i : ℕ) → i < 10 → at (take 10 (drop 1 cs)) i ≡ at cs (suc i)
rest_at cs i h = get_or-take 10 (drop 1 cs) i (pos 0) h ∙ get_or_after_one cs i (pos 0) ∙ ap (at cs) (omega arith)

pub loop-coefficient-init : goal.loop-coefficient-init
unfolding magnitudes
loop-coefficient-init c = (omega arith, refl)

pub loop-coefficient-preserved : goal.loop-coefficient-preserved
unfolding magnitudes
loop-coefficient-preserved c =
    let cs = c.args.coefficients.now in
    let i = c.loop-coefficient.coefficient-index in
    let x : to_z w16 (of_z w16 (at (take 10 (drop 1 cs)) i)) ≡ at (take 10 (drop 1 cs)) i = search rules in
    let m = rw (x, rest_at cs i (search rules)) at c.unsigned_abs.ensures.value in
    (omega (arith, c.loop-coefficient.invariant.0, c.unsigned_abs.ensures.bound), rw (m, c.loop-coefficient.invariant.1, add-one i))
