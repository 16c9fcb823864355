use Rattle.std.proofs.Common.{◌≡◌, pos, w16, rules, to_z, of_z}
use Rattle.fixed.specs.Operators.{L_mult, L_mac}
use Rattle.codebook_matrix.specs.Matrices.{cell}
use Rattle.codebook_steps.specs.Steps.{step_to}
use Rattle.codebook_choice.specs.Choices.{third_at}
use Rattle.codebook_choice.proofs.Lists.third.Goals as goal

pub returns : goal.returns
unfolding third_at step_to
returns c =
    let m = c.args.self.table.now in
    let one = c.args.one in
    let s : to_z w16 (of_z w16 one.sum) ≡ one.sum = search rules in
    rw (c.step-sum.ensures, s) at c.chosen.ensures
    (λ q. L_mac (L_mac (L_mac (L_mult one.energy (pos 8192)) (cell m q q) (pos 2048)) (cell m one.place q) (pos 4096)) (cell m c.args.first q) (pos 4096))
    (λ n e l h. search rules)
