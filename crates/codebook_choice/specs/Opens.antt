-- One name for an `unfolding` line that computes the definitions of this crate.
use Rattle.codebook_target.specs.Opens.{target_opens}
use Rattle.codebook_matrix.specs.Opens.{matrix_opens}
use Rattle.codebook_steps.specs.Opens.{steps_opens}
use Rattle.codebook_choice.specs.Choices.{best_step, second_at, third_at, fourth_at, of_steps, last_step, last_steps, trial_from, started, permutation, permutations, search_4i40}

unfoldable pub choice_opens : Unit {0}
unfolding target_opens matrix_opens steps_opens best_step second_at third_at fourth_at of_steps last_step last_steps trial_from started permutation permutations search_4i40
choice_opens = tt
