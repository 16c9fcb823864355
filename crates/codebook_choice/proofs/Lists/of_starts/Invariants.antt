use Rattle.std.proofs.Common.{ℕ, ◌≡◌, ◌+◌, ◌*◌, ◌<◌}
use Rattle.codebook_steps.specs.declared.Step.{Step}
use Rattle.codebook_steps.specs.Steps.{none_in}
use Rattle.codebook_choice.proofs.Starting.{Chosen}
use Rattle.codebook_choice.proofs.Lists.of_starts.Given as goal

abbrev pub invariant-loop-n : goal.invariant-loop-n
invariant-loop-n g l = (f : ℕ → Step) → ((n : ℕ) (s : Step) → n < 8 → goal.F-post g l.step (l.a + 5 * n) n s → s ≡ f n) → Chosen l.self.left.now l.a f (none_in l.fn.track) l.n l.steps
