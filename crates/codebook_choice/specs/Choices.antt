-- TS 26.073 search_4i40: from each start the other three tracks take their best place in turn.
use Rattle.std.specs.Prelude.{cond, List, ℕ, zero, suc, ◌+◌, ◌*◌, ℤ, pos, negsuc}
use Rattle.fixed.specs.Operators.{add, L_mult, L_mac, L_deposit_h}
use Rattle.fixed.specs.Lists.{at}
use Rattle.codebook_target.specs.Starts.{may_start}
use Rattle.codebook_matrix.specs.Matrices.{cell}
use Rattle.codebook_steps.specs.declared.Step.{Step}
use Rattle.codebook_steps.specs.declared.Trial.{Trial}
use Rattle.codebook_steps.specs.Steps.{step_to, better, none_in, kept}

-- what a list of steps holds past its end
abbrev pub zero_step : Step
zero_step = record { place = 0; sum = pos 0; square = pos 0; energy = pos 0 }

-- the best of the first n places of a track
unfoldable pub best_step : (ℕ → Step) → ℕ → ℕ → Step
best_step f track zero = none_in track
best_step f track (suc n) = better (best_step f track n) (f (track + 5 * n))

-- the four pulses that a start and the three steps after it give
unfoldable pub of_steps : ℕ → Step → Step → Step → Trial
of_steps p one two three =
    record { first = p; second = one.place; third = two.place; fourth = three.place; square = three.square; energy = three.energy }

-- the correlations without their signs, and the table
module _ (cs : List ℤ) (m : List (List ℤ)) where
  -- 'i1 loop': the energies by 1/4, their cross term by 1/2
  unfoldable pub second_at : ℕ → ℕ → Step
  second_at first p =
      step_to p (add (at cs first) (at cs p))
      (L_mac (L_mac (L_mult (cell m first first) (pos 8192)) (cell m p p) (pos 8192)) (cell m first p) (pos 16384))

  -- 'i2 loop': the energy so far by 1/4, that of the place by 1/16, its cross terms by 1/8, the later pulse first
  unfoldable pub third_at : ℕ → Step → ℕ → Step
  third_at first one p =
      step_to p (add one.sum (at cs p))
      (L_mac (L_mac (L_mac (L_mult one.energy (pos 8192)) (cell m p p) (pos 2048)) (cell m one.place p) (pos 4096)) (cell m first p) (pos 4096))

  -- 'i3 loop': the energy so far as it is
  unfoldable pub fourth_at : ℕ → ℕ → Step → ℕ → Step
  fourth_at first second two p =
      step_to p (add two.sum (at cs p))
      (L_mac (L_mac (L_mac (L_mac (L_deposit_h two.energy) (cell m p p) (pos 2048)) (cell m two.place p) (pos 4096)) (cell m second p) (pos 4096))
      (cell m first p) (pos 4096))

  -- the fourth pulse, in track d
  unfoldable pub last_step : ℕ → Step → Step → ℕ → Trial
  last_step p one two d = of_steps p one two (best_step (fourth_at p one.place two) d 8)

  -- the third, in track c, and the fourth
  unfoldable pub last_steps : ℕ → Step → ℕ → ℕ → Trial
  last_steps p one c d = last_step p one (best_step (third_at p one) c 8) d

  -- from a start, the second in track b and these
  unfoldable pub trial_from : ℕ → ℕ → ℕ → ℕ → Trial
  trial_from p b c d = last_steps p (best_step (second_at p) b 8) c d

  module _ (left : List ℤ) where
    -- 'if (dn2[i0] >= 0)': a start is tried where it has the right to
    unfoldable pub started : ℕ → ℕ → ℕ → Trial → ℕ → Trial
    started b c d held p = cond (may_start left p) (kept held (trial_from p b c d)) held

    -- the first n places of track a start, then tracks b, c, d follow
    unfoldable pub permutation : ℕ → ℕ → ℕ → ℕ → Trial → ℕ → Trial
    permutation a b c d held zero = held
    permutation a b c d held (suc n) = started b c d (permutation a b c d held n) (a + 5 * n)

    -- 'Cyclic permutation of i0,i1,i2 and i3': with a last track, each of the four tracks starts once
    unfoldable pub permutations : ℕ → Trial → Trial
    permutations l held = permutation 1 2 l 0 (permutation 2 l 0 1 (permutation l 0 1 2 (permutation 0 1 2 l held 8) 8) 8) 8

    -- 'Default value': 'psk = -1', 'alpk = 1' and places 0 to 3; then last tracks 3 and 4
    unfoldable pub search_4i40 : Trial
    search_4i40 = permutations 4 (permutations 3 (record { first = 0; second = 1; third = 2; fourth = 3; square = negsuc 0; energy = pos 1 }))
