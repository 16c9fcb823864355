-- One pulse in each of tracks 0, 1, 2 and in 3 or 4.
use mathlib.Core.Path.{◌≡◌, refl}
use mathlib.Core.List.{List}
use mathlib.Core.Logic.{◌⊎◌, inl, inr, ⊎_elim}
use Prim.Native.Nat.{ℕ, zero, suc, ◌+◌, ◌*◌, ◌≤◌, ◌<◌}
use native.Mathlib.Omega.{arith}
use lib.IntN.{ℤ}
use Rattle.fixed.proofs.Bounds.{either}
use Rattle.codebook_target.specs.Starts.{may_start}
use Rattle.codebook_target.proofs.Starting.{OfTrack}
use Rattle.codebook_steps.specs.declared.Step.{Step}
use Rattle.codebook_steps.specs.declared.Trial.{Trial}
use Rattle.codebook_steps.specs.Steps.{step_to, exceeds, better, none_in, kept}
use Rattle.codebook_choice.specs.Choices.{best_step, second_at, third_at, fourth_at, of_steps, last_step, last_steps, trial_from, started, permutation, permutations, search_4i40}

-- the best place of a track is one of it
pub best_in : (f : ℕ → Step) (track n : ℕ) → ((p : ℕ) → (f p).place ≡ p) → track < 5 → n ≤ 8 → OfTrack track (best_step f track n).place
unfolding best_step none_in better
best_in f track zero e t l = (omega arith, omega arith)
best_in f track (suc n) e t l =
    let a = best_step f track n in
    let b = f (track + 5 * n) in
    either (λ (s : Step). OfTrack track s.place) (exceeds b.square b.energy a.square a.energy) b a
    (rw (e (track + 5 * n)) (omega arith, omega arith)) (best_in f track n e t (omega arith))

-- pulses in the tracks a, b, c, d
abbrev pub InTracks : ℕ → ℕ → ℕ → ℕ → Trial → Type 0
InTracks a b c d t = OfTrack a t.first × OfTrack b t.second × OfTrack c t.third × OfTrack d t.fourth

-- with the last track l, one of the four cyclic permutations
abbrev pub Permuted : ℕ → Trial → Type 0
Permuted l t = InTracks 0 1 2 l t ⊎ (InTracks l 0 1 2 t ⊎ (InTracks 2 l 0 1 t ⊎ InTracks 1 2 l 0 t))

-- one pulse in each of tracks 0, 1, 2 and in 3 or 4
abbrev pub Spread : Trial → Type 0
Spread t = Permuted 3 t ⊎ Permuted 4 t

module _ (cs : List ℤ) (m : List (List ℤ)) where
  second_in : (first b : ℕ) → b < 5 → OfTrack b (best_step (second_at cs m first) b 8).place
  unfolding second_at step_to
  second_in first b h = best_in (second_at cs m first) b 8 (λ p. refl) h (omega arith)

  third_in : (first c : ℕ) (one : Step) → c < 5 → OfTrack c (best_step (third_at cs m first one) c 8).place
  unfolding third_at step_to
  third_in first c one h = best_in (third_at cs m first one) c 8 (λ p. refl) h (omega arith)

  fourth_in : (first second d : ℕ) (two : Step) → d < 5 → OfTrack d (best_step (fourth_at cs m first second two) d 8).place
  unfolding fourth_at step_to
  fourth_in first second d two h = best_in (fourth_at cs m first second two) d 8 (λ p. refl) h (omega arith)

  pub fourth_lt : (first second d : ℕ) (two : Step) → d < 5 → (best_step (fourth_at cs m first second two) d 8).place < 40
  fourth_lt first second d two h = (fourth_in first second d two h).1

  trial_in : (p a b c d : ℕ) → OfTrack a p → b < 5 → c < 5 → d < 5 → InTracks a b c d (trial_from cs m p b c d)
  unfolding trial_from last_steps last_step of_steps
  trial_in p a b c d o hb hc hd =
      let one = best_step (second_at cs m p) b 8 in
      let two = best_step (third_at cs m p one) c 8 in
      (o, second_in p b hb, third_in p c one hc, fourth_in p one.place d two hd)

  module _ (left : List ℤ) where
    -- what holds of the trial held and of every trial from a start holds of the one kept
    keeps : (P : Trial → Type 0) (a b c d : ℕ) (held : Trial) (n : ℕ) → a < 5 → n ≤ 8 → ((p : ℕ) → OfTrack a p → P (trial_from cs m p b c d)) → P held → P (permutation cs m left a b c d held n)
    unfolding permutation started kept
    keeps P a b c d held zero h l every is = is
    keeps P a b c d held (suc n) h l every is =
        let t = permutation cs m left a b c d held n in
        let next = trial_from cs m (a + 5 * n) b c d in
        let before = keeps P a b c d held n h (omega arith) every is in
        either P (may_start left (a + 5 * n)) (kept t next) t
        (either P (exceeds next.square next.energy t.square t.energy) next t (every (a + 5 * n) (omega arith, omega arith)) before) before

    permutations_keep : (l : ℕ) (held : Trial) (P : Trial → Type 0) → l < 5 → ((t : Trial) → Permuted l t → P t) → P held → P (permutations cs m left l held)
    unfolding permutations
    permutations_keep l held P h every is =
        let a = permutation cs m left 0 1 2 l held 8 in
        let b = permutation cs m left l 0 1 2 a 8 in
        let c = permutation cs m left 2 l 0 1 b 8 in
        let pa = keeps P 0 1 2 l held 8 (omega arith) (omega arith) (λ p o. every (trial_from cs m p 1 2 l) (inl (trial_in p 0 1 2 l o (omega arith) (omega arith) h))) is in
        let pb = keeps P l 0 1 2 a 8 h (omega arith) (λ p o. every (trial_from cs m p 0 1 2) (inr (inl (trial_in p l 0 1 2 o (omega arith) (omega arith) (omega arith))))) pa in
        let pc = keeps P 2 l 0 1 b 8 (omega arith) (omega arith) (λ p o. every (trial_from cs m p l 0 1) (inr (inr (inl (trial_in p 2 l 0 1 o h (omega arith) (omega arith)))))) pb in
        keeps P 1 2 l 0 c 8 (omega arith) (omega arith) (λ p o. every (trial_from cs m p 2 l 0) (inr (inr (inr (trial_in p 1 2 l 0 o (omega arith) h (omega arith)))))) pc

    -- the pulses of the choice
    pub search_spread : Spread (search_4i40 cs m left)
    unfolding search_4i40
    search_spread =
        permutations_keep 4 _ Spread (omega arith) (λ t r. inr r)
        (permutations_keep 3 _ Spread (omega arith) (λ t r. inl r) (inl (inl ((refl, omega arith), (refl, omega arith), (refl, omega arith), (refl, omega arith)))))

-- so every place is one of the 40
spread_lt : (t : Trial) → Spread t → (t.first < 40) × (t.second < 40) × (t.third < 40) × (t.fourth < 40)
spread_lt t s = ⊎_elim permuted permuted s
  where
    four : {a b c d : ℕ} → InTracks a b c d t → (t.first < 40) × (t.second < 40) × (t.third < 40) × (t.fourth < 40)
    four i = (i.0.1, i.1.1, i.2.1, i.3.1)

    permuted : {l : ℕ} → Permuted l t → (t.first < 40) × (t.second < 40) × (t.third < 40) × (t.fourth < 40)
    permuted r = ⊎_elim (λ i. four i) (λ r₁. ⊎_elim (λ i. four i) (λ r₂. ⊎_elim (λ i. four i) (λ i. four i) r₂) r₁) r

pub search_lt : (cs : List ℤ) (m : List (List ℤ)) (left : List ℤ) (t : Trial) → t ≡ search_4i40 cs m left → (t.first < 40) × (t.second < 40) × (t.third < 40) × (t.fourth < 40)
search_lt cs m left t e = spread_lt t (rw e (search_spread cs m left))
