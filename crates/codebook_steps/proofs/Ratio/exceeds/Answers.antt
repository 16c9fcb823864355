use Rattle.std.proofs.Common.{w16, w32, SFits, rules}
use Rattle.std.proofs.lemmas.Int.{to_z-of_z}
use Rattle.fixed.proofs.Bounds.{got}
use Rattle.codebook_steps.proofs.Comparing.{exceeds_plain}
use Rattle.codebook_steps.proofs.Ratio.exceeds.Goals as goal

pub returns : goal.returns
returns c =
    let x : SFits w16 c.args.self.square = search rules in
    let y : SFits w16 c.args.self.energy = search rules in
    let z : SFits w16 c.args.held.square = search rules in
    let w : SFits w16 c.args.held.energy = search rules in
    rw (exceeds_plain x y z w, got w32 c.exact-2.type_inv c.exact-2.ensures, got w32 c.exact.type_inv c.exact.ensures) (simp to_z-of_z)
