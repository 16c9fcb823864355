-- The steps from the eight places of a track, one where a place may start and none where it may not.
use mathlib.Core.Path.{◌≡◌, ◌∙◌}
use mathlib.Core.Bool.{true, false, cond}
use mathlib.Core.List.{List}
use Prim.Native.Nat.{ℕ, ◌+◌, ◌*◌, ◌<◌, ◌≤◌}
use native.Mathlib.Omega.{arith}
use lib.IntN.{ℤ}
use lib.ListN.{length, get_or, set, replicate, length-set, length-replicate, get_or-replicate}
use lib.Seq.{get_or-set_same, get_or-set_other}
use borrow.Author.Count.{below_more}
use Rattle.fixed.specs.Lists.{tabulate}
use Rattle.fixed.proofs.Lists.{filled_all}
use Rattle.codebook_target.specs.Starts.{may_start}
use Rattle.codebook_steps.specs.declared.Step.{Step}

module _ (left : List ℤ) (a : ℕ) (f : ℕ → Step) (none : Step) where
  abbrev pub chosen : ℕ → Step
  chosen n = cond (may_start left (a + 5 * n)) (f n) none

  -- the first n are there, the others hold none yet
  abbrev pub Chosen : ℕ → List Step → Type 0
  Chosen n steps = (n ≤ 8) × (length steps ≡ 8) × ((k : ℕ) → k < n → get_or steps k none ≡ chosen k) × ((k : ℕ) → n ≤ k → k < 8 → get_or steps k none ≡ none)

  pub none_chosen : Chosen 0 (replicate 8 none)
  none_chosen = (omega arith, length-replicate 8 none, λ k h. absurd (omega arith), λ k h l. get_or-replicate 8 k none none l)

  pub one_chosen : (n : ℕ) (steps : List Step) (s : Step) → n < 8 → may_start left (a + 5 * n) ≡ true → s ≡ f n → Chosen n steps → Chosen (n + 1) (set steps n s)
  one_chosen n steps s h t e c = (
    omega arith,
    length-set steps n s ∙ c.1,
    below_more (λ (k : ℕ). get_or (set steps n s) k none ≡ chosen k) n (λ k l. get_or-set_other steps n k s none (λ (q : k ≡ n). absurd (omega arith)) ∙ c.2 k l)
        (get_or-set_same steps n s none (omega (arith, c.1)) ∙ rw t e),
    λ k l u. get_or-set_other steps n k s none (λ (q : k ≡ n). absurd (omega arith)) ∙ c.3 k (omega arith) u,
  )

  pub none_more : (n : ℕ) (steps : List Step) → n < 8 → may_start left (a + 5 * n) ≡ false → Chosen n steps → Chosen (n + 1) steps
  none_more n steps h t c =
      (omega arith, c.1, below_more (λ (k : ℕ). get_or steps k none ≡ chosen k) n c.2 (c.3 n (omega arith) h ∙ rw t), λ k l u. c.3 k (omega arith) u)

  pub all_chosen : (n : ℕ) (steps : List Step) → 8 ≤ n → Chosen n steps → steps ≡ tabulate chosen 8
  all_chosen n steps h c = filled_all chosen none 8 steps c.1 (λ k l. c.2 k (omega arith))
