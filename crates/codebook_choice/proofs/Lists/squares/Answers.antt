use Rattle.std.proofs.Common.{◌+◌, ◌*◌, pos, rules}
use Rattle.fixed.specs.Operators.{add, mult}
use Rattle.fixed.specs.Lists.{at}
use Rattle.fixed.proofs.Made.{made}
use Rattle.codebook_choice.proofs.Lists.squares.Goals as goal

pub returns : goal.returns
returns c =
    let a = c.args in
    let cs = a.self.correlation.now in
    made _ (pos 0) (λ n. mult (add a.sum (at cs (a.track + 5 * n))) (add a.sum (at cs (a.track + 5 * n)))) 8 _ (λ k r f' l h. search rules) _ c.from_fn.ensures.items
