-- The trials of a permutation, the starts side by side: the lists of second and third steps give at each start the trial from it.
use mathlib.Core.Path.{◌≡◌, refl}
use mathlib.Core.Bool.{Bool, true, false, cond}
use mathlib.Core.List.{List}
use Prim.Native.Nat.{ℕ, ◌+◌, ◌*◌, ◌<◌}
use lib.IntN.{ℤ}
use lib.ListN.{get_or}
use Rattle.fixed.specs.Lists.{tabulate}
use Rattle.fixed.proofs.Lists.{at_tabulate}
use Rattle.codebook_target.specs.Starts.{may_start}
use Rattle.codebook_steps.specs.declared.Step.{Step}
use Rattle.codebook_steps.specs.declared.Trial.{Trial}
use Rattle.codebook_steps.specs.Steps.{none_in, kept}
use Rattle.codebook_choice.specs.Choices.{zero_step, best_step, second_at, third_at, last_step, last_steps, trial_from, started}

module _ (cs : List ℤ) (m : List (List ℤ)) (left : List ℤ) (a b c : ℕ) where
  -- from start number n
  abbrev pub one : ℕ → Step
  one n = cond (may_start left (a + 5 * n)) (best_step (second_at cs m (a + 5 * n)) b 8) (none_in b)

  abbrev pub ones : List Step
  ones = tabulate one 8

  abbrev pub two : ℕ → Step
  two n = cond (may_start left (a + 5 * n)) (best_step (third_at cs m (a + 5 * n) (get_or ones n zero_step)) c 8) (none_in c)

  abbrev pub twos : List Step
  twos = tabulate two 8

  -- the trial of what the lists hold, at any default
  pub start_is : (d : ℕ) (held : Trial) (n : ℕ) (x y : Step) → n < 8 →
      cond (may_start left (a + 5 * n)) (kept held (last_step cs m (a + 5 * n) (get_or ones n x) (get_or twos n y) d)) held ≡ started cs m left b c d held (a + 5 * n)
  unfolding started trial_from last_steps
  start_is d held n x y l = go (may_start left (a + 5 * n)) refl
    where
      go : (t : Bool) → may_start left (a + 5 * n) ≡ t →
          cond (may_start left (a + 5 * n)) (kept held (last_step cs m (a + 5 * n) (get_or ones n x) (get_or twos n y) d)) held ≡ started cs m left b c d held (a + 5 * n)
      go true e = rw (at_tabulate one x 8 n l, at_tabulate two y 8 n l, at_tabulate one zero_step 8 n l, e)
      go false e = rw e
