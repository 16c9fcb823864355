use Rattle.std.proofs.Common.{◌≡◌, pos, w16, rules, to_z, of_z}
use Rattle.fixed.specs.Operators.{L_mac, L_deposit_h}
use Rattle.codebook_matrix.specs.Matrices.{cell}
use Rattle.codebook_steps.specs.Steps.{step_to}
use Rattle.codebook_choice.specs.Choices.{fourth_at}
use Rattle.codebook_choice.proofs.Lists.plain_fourth.Goals as goal

pub returns : goal.returns
unfolding fourth_at step_to
returns c =
    let m = c.args.self.table.now in
    let two = c.args.two in
    let s : to_z w16 (of_z w16 two.sum) ≡ two.sum = search rules in
    rw (c.step-sum.ensures, s) at c.chosen.ensures
    (λ q. L_mac (L_mac (L_mac (L_mac (L_deposit_h two.energy) (cell m q q) (pos 2048)) (cell m two.place q) (pos 4096)) (cell m c.args.second q) (pos 4096)) (cell m c.args.first q) (pos 4096))
    (λ n e l h. search rules)
