use mathlib.Core.Path.{◌≡◌, ◌∙◌}
use Prim.Native.Nat.{◌+◌, ◌*◌, min}
use native.Mathlib.Omega.{arith}
use lib.IntN.{pos}
use mir.Syntax.{w32}
use mir.Val.{to_z, of_z}
use Rattle.fixed.specs.Operators.{L_add}
use Rattle.fixed.specs.Lists.{at}
use Rattle.fixed.proofs.Bounds.{got}
use Rattle.sums.specs.Plain.{squared}
use Rattle.sums.proofs.Sums.{energy_from, energy_is}
use Rattle.gain_sums.specs.Sums.{sum}
use Rattle.gain_sums.proofs.square_value.Goals as goal

pub returns : goal.returns
unfolding sum L_add
returns c =
    let e = c.energy40 in
    let xs = c.args.words.now in
    let s = 2 * squared (at xs) 40 in
    let w : to_z w32 (of_z w32 e.result) ≡ pos (min s 2147483647) = got w32 e.type_inv (e.ensures ∙ energy_is xs 40) in
    let v : min (min s 2147483647 + 1) 2147483647 ≡ min (1 + s) 2147483647 = omega arith in
    got w32 c.add.type_inv c.add.ensures ∙ rw (w, energy_from 1 xs 40 (omega arith), v)
