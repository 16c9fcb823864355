use Rattle.std.proofs.Common.{pos, w16, rules}
use Rattle.fixed.specs.Operators.{L_mult, L_mac}
use Rattle.fixed.proofs.Bounds.{got}
use Rattle.codebook_matrix.specs.Matrices.{cell}
use Rattle.codebook_steps.specs.Steps.{step_to}
use Rattle.codebook_choice.specs.Choices.{second_at}
use Rattle.codebook_choice.proofs.Lists.second.Goals as goal

pub returns : goal.returns
unfolding second_at step_to
returns c =
    let m = c.args.self.table.now in
    let p = c.args.first in
    let s = got w16 c.correlation_at-sum.type_inv c.correlation_at-sum.ensures in
    rw s at c.chosen.ensures (λ q. L_mac (L_mac (L_mult (cell m p p) (pos 8192)) (cell m q q) (pos 8192)) (cell m p q) (pos 16384)) (λ n e l h. search rules)
