use mathlib.Core.Path.{◌≡◌, refl}
use native.Mathlib.Numerals.{add-one}
use native.Mathlib.Omega.{arith}
use borrow.Author.Rules.{rules}
use mir.Syntax.{w16}
use mir.Val.{to_z, of_z}
use Rattle.fixed.specs.Lists.{at}
use Rattle.sums.specs.Plain.{reach}
use Rattle.sums.proofs.reach.Goals as goal

pub loop-word-init : goal.loop-word-init
unfolding reach
loop-word-init c = (omega arith, refl)

pub loop-word-preserved : goal.loop-word-preserved
unfolding reach
loop-word-preserved c =
    let x = c.args.list.now in
    let e : to_z w16 (of_z w16 (at x c.loop-word.word-index)) ≡ at x c.loop-word.word-index = search rules in (
      omega (arith, c.unsigned_abs.type_inv, c.loop-word.invariant.0),
      rw (c.unsigned_abs.ensures.value, e, c.loop-word.invariant.1, add-one c.loop-word.word-index),
    )
