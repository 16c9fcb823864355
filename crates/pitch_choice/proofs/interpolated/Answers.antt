use Rattle.std.proofs.Common.{◌≡◌, ◌-◌, ◌+◌, ◌*◌, add-one}
use mir.Syntax.{w16, w32}
use mir.Val.{to_z, of_z}
use borrow.Author.Rules.{rules}
use Rattle.fixed.specs.Lists.{at}
use Rattle.pitch_choice.specs.Choices.{interpolated_to}
use Rattle.pitch_choice.proofs.interpolated.Goals as goal

pub loop-i-preserved : goal.loop-i-preserved
unfolding interpolated_to
loop-i-preserved c =
    let cs = c.args.correlation.now in
    let t = c.args.table.now in
    let place = c.args.place in
    let phase = c.args.phase in
    let i = c.loop-i.i in
    let r : to_z w32 (of_z w32 c.mac-sum-in-loop-i.result) ≡ c.mac-sum-in-loop-i.result = search rules in
    let q : to_z w32 (of_z w32 c.mac-sum.result) ≡ c.mac-sum.result = search rules in
    let x : to_z w16 (of_z w16 (at cs (place - i))) ≡ at cs (place - i) = search rules in
    let y : to_z w16 (of_z w16 (at t (phase + 6 * i))) ≡ at t (phase + 6 * i) = search rules in
    let v : to_z w16 (of_z w16 (at cs (place + 1 + i))) ≡ at cs (place + 1 + i) = search rules in
    let w : to_z w16 (of_z w16 (at t (6 - phase + 6 * i))) ≡ at t (6 - phase + 6 * i) = search rules in
    rw (add-one i, r, c.mac-sum-in-loop-i.ensures, q, c.mac-sum.ensures, x, y, v, w, c.loop-i.invariant, c.requires.0)
