use mathlib.Core.Path.{◌≡◌, refl}
use native.Mathlib.Numerals.{add-one}
use borrow.Author.Rules.{rules}
use mir.Syntax.{w16}
use mir.Val.{to_z, of_z}
use Rattle.fixed.specs.Lists.{at}
use Rattle.sums.specs.Plain.{peak}
use Rattle.sums.proofs.peak.Goals as goal

pub loop-word-init : goal.loop-word-init
unfolding peak
loop-word-init g c = refl

pub loop-word-preserved : goal.loop-word-preserved
unfolding peak
loop-word-preserved g c =
    let x = c.args.list.now in
    let e : to_z w16 (of_z w16 (at x c.loop-word.word-index)) ≡ at x c.loop-word.word-index = search rules in
    rw (c.max-most.ensures, c.unsigned_abs.ensures.value, e, c.loop-word.invariant, add-one c.loop-word.word-index)
