use Rattle.std.proofs.Common.{◌≡◌, ◌<◌, arith}
use Rattle.codebook_choice.proofs.Choosing.{fourth_lt}
use Rattle.codebook_choice.proofs.Lists.clipped_fourth.Goals as goal

pub invariant_of-result : goal.invariant_of-result
invariant_of-result c =
    let a = c.args in
    let t : a.track < 5 = omega arith in
    let e : c.loop-n.n ≡ 8 = omega arith in
    rw (c.loop-n.invariant, e) (fourth_lt a.self.correlation.now a.self.table.now a.first a.second a.track a.two t)
