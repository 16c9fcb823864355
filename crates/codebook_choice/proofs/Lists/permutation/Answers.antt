use Rattle.std.proofs.Common.{ℕ, ◌+◌, ◌*◌, get_or, arith, add-one, rules}
use Rattle.codebook_steps.specs.declared.Step.{Step}
use Rattle.codebook_choice.specs.Choices.{zero_step, best_step, second_at, third_at, permutation}
use Rattle.codebook_choice.proofs.Trials.{ones, start_is}
use Rattle.codebook_choice.proofs.Lists.permutation.Goals as goal

pub loop-n-preserved : goal.loop-n-preserved
unfolding permutation
loop-n-preserved c =
    let a = c.args in
    let l = a.self in
    let n = c.loop-n.n in
    let cs = l.correlation.now in
    let m = l.table.now in
    let f : ℕ → Step = λ k. best_step (second_at cs m (a.a + 5 * k)) a.b 8 in
    let g : ℕ → Step = λ k. best_step (third_at cs m (a.a + 5 * k) (get_or (ones cs m l.left.now a.a a.b a.c) k zero_step)) a.c 8 in
    let first = c.of_starts-ones.ensures f (λ k s h p. search rules) in
    let second = c.of_starts-twos.ensures g (λ k s h p. search rules) in
    rw (add-one n, ← c.loop-n.invariant, c.started-best.ensures, c.place.ensures, second, first)
    (start_is cs m l.left.now a.a a.b a.c a.d c.loop-n.best n c.index-ones-n.result c.index-twos-n.result (omega arith))
