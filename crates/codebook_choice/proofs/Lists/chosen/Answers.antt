use Rattle.std.proofs.Common.{◌≡◌, ℕ, ℤ, ◌+◌, ◌*◌, pos, rules}
use mir.Facts.{to_z-of_z}
use Rattle.fixed.specs.Operators.{add, mult, round}
use Rattle.fixed.specs.Lists.{at, tabulate}
use Rattle.fixed.proofs.Lists.{at_tabulate}
use Rattle.fixed.proofs.Made.{made}
use Rattle.codebook_steps.specs.Steps.{step_to}
use Rattle.codebook_choice.proofs.Lists.chosen.Goals as goal

pub returns : goal.returns
unfolding step_to
returns g c long is =
    let a = c.args in
    let cs = a.self.correlation.now in
    let q : ℕ → ℤ = λ n. mult (add a.sum (at cs (a.track + 5 * n))) (add a.sum (at cs (a.track + 5 * n))) in
    let e : ℕ → ℤ = λ n. round (long (a.track + 5 * n)) in
    let s = to_z-of_z c.ranges.sum in
    let es : c.from_fn-energies.result ≡ tabulate e 8 = made _ (pos 0) e 8 _ (λ k r f' l h. search (is, rules)) _ c.from_fn-energies.ensures.items in
    c.best.ensures (λ p. step_to p (add a.sum (at cs p)) (long p)) (λ n h. rw (c.squares-squares.ensures, s, es, at_tabulate q (pos 0) 8 n h, at_tabulate e (pos 0) 8 n h))
