-- TS 26.073 search_4i40: a pulse more, and what replaces what is held.
use Rattle.std.specs.Prelude.{◌≡◌, refl, Bool, cond, ℕ, ℤ, pos, negsuc}
use Rattle.std.specs.Int.Signed.{lt_z}
use Rattle.fixed.specs.Operators.{mult, round, L_mult, L_msu}
use Rattle.codebook_steps.specs.declared.Step.{Step}
use Rattle.codebook_steps.specs.declared.Trial.{Trial}

-- 'sq1 = mult(ps1, ps1)', 'alp_16 = round(alp1)': a pulse more at a place, the sum with it, the energy with it
unfoldable pub step_to : ℕ → ℤ → ℤ → Step
step_to p s e = record { place = p; sum = s; square = mult s s; energy = round e }

-- 's = L_mult(alp, sq1)', 's = L_msu(s, sq, alp_16)', 'if (s > 0)': a square over its energy is greater than the one held
abbrev pub exceeds : ℤ → ℤ → ℤ → ℤ → Bool
exceeds square energy held_square held_energy = lt_z (pos 0) (L_msu (L_mult held_energy square) held_square energy)

-- the step held, or the next where it is greater
unfoldable pub better : Step → Step → Step
better held next = cond (exceeds next.square next.energy held.square held.energy) next held

-- 'sq = -1', 'alp = 1', 'ps = 0', and the track's first place: nothing found yet
unfoldable pub none_in : ℕ → Step
none_in track = record { place = track; sum = pos 0; square = negsuc 0; energy = pos 1 }

-- 'psk', 'alpk': the trial held, or the next where it is greater
unfoldable pub kept : Trial → Trial → Trial
kept held next = cond (exceeds next.square next.energy held.square held.energy) next held

-- both take what exceeds what is held
pub better_choice : (held next : Step) → better held next ≡ cond (exceeds next.square next.energy held.square held.energy) next held
unfolding better
better_choice held next = refl

pub kept_choice : (held next : Trial) → kept held next ≡ cond (exceeds next.square next.energy held.square held.energy) next held
unfolding kept
kept_choice held next = refl
