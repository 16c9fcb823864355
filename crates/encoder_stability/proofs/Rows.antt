-- The proofs of the statements on a stage.
use mathlib.Core.Path.{◌≡◌, refl, ap, sym, ◌∙◌}
use mathlib.Core.List.{List, [], ◌∷◌}
use mathlib.Core.Logic.{inl, inr}
use Prim.Native.Nat.{ℕ, ◌≤◌}
use native.Mathlib.Omega.{arith}
use lib.IntN.{ℤ}
use Rattle.refusal.specs.Refused.{Told, values, refused, put}
use Rattle.refusal.specs.Checks.{Check, checked, whole_or_nothing, length_is, predicted_exponent, power_fraction}
use Rattle.refusal.proofs.Checkings.{accepted_all}
use Rattle.refusal.proofs.Answers.{no_values, by_checks, Numbered, numbered}
use Rattle.gain_limit.specs.declared.GainLimit.{GainLimit}
use Rattle.gain_limit.specs.declared.GainLimit.TheVariants.{Unrestricted, Resonance}
use Rattle.gain_limit.specs.Limits.{limit_number, gp_limit}
use Rattle.gain.specs.declared.QuantizedGain.{QuantizedGain}
use Rattle.gain.specs.Rows.{chosen, Qua_gain, gain_checks, quantize}
use Rattle.gain.specs.Statement.{LimitsOfTheEntry}
use Rattle.gain.proofs.Chosen.{chosen_row}
use Rattle.gain.proofs.Limits.{limits_of_the_entry}
use Rattle.encoder_stability.specs.declared.Stability.{Stability}
use Rattle.encoder_stability.specs.declared.WatchedGain.{WatchedGain}
use Rattle.encoder_stability.specs.Watch.{limit_by, with_row, watched}
use Rattle.encoder_stability.specs.Statement.{Lowest, BothCallers, NothingChanges, OneSevenOrFourteen, Refusals}
use Rattle.encoder_stability.proofs.Stages.{kept_by_refusal}

-- what the stage's answer tells of that of `quantize`
module _ (w : Stability) (limit : GainLimit) where
  of_values : (t : Told QuantizedGain) (a : WatchedGain) → (whole_or_nothing w (put (with_row w limit) t)).answer ≡ values a → (a.limit ≡ limit) × (t ≡ values a.gain)
  of_values (values q) a e =
      let b : WatchedGain = record { gain = q; limit = limit } in
      let h : b ≡ a = cc in
      (sym (ap (λ (c : WatchedGain). c.limit) h), ap (λ (c : WatchedGain). values c.gain) h)
  of_values (refused n d) a e = no_values e

  of_refused : (t : Told QuantizedGain) (n : ℕ) (d : ℤ) → (whole_or_nothing w (put (with_row w limit) t)).answer ≡ refused n d → t ≡ refused n d
  of_refused (values q) n d e = no_values (sym e)
  of_refused (refused m c) n d e = let f : m ≡ n = cc in let g : c ≡ d = cc in rw (f, g)

module _ (xs ys zs : List ℤ) (exponent : ℤ) (fraction : ℕ) where
  abbrev row : ℕ → QuantizedGain
  row choice = Qua_gain xs ys zs exponent fraction (gp_limit choice)

  by_hand : (choice : ℕ) (q : QuantizedGain) → quantize xs ys zs exponent fraction choice ≡ values q → Lowest xs ys zs exponent fraction choice q
  unfolding quantize
  by_hand choice q e =
      let p = accepted_all (row choice) q (gain_checks xs ys zs exponent fraction choice) e in
      rw (← p.1) (chosen_row xs ys zs exponent fraction choice)

  by_watch : (w : Stability) (g : ℤ) (a : WatchedGain) →
      (watched w xs ys zs exponent fraction g).answer ≡ values a → (a.limit ≡ limit_by w g) × Lowest xs ys zs exponent fraction (limit_number a.limit) a.gain
  unfolding watched
  by_watch w g a e =
      let limit = limit_by w g in
      let r = of_values w limit (quantize xs ys zs exponent fraction (limit_number limit)) a e in
      (r.0, rw r.0 (by_hand (limit_number limit) a.gain r.1))

  -- ---- where the unrestricted row is at most 95
  -- an answer is what its index says
  of_index : (choice : ℕ) (q : QuantizedGain) → quantize xs ys zs exponent fraction choice ≡ values q → q ≡ chosen xs ys zs q.index
  unfolding quantize Qua_gain
  of_index choice q e =
      let p = accepted_all (row choice) q (gain_checks xs ys zs exponent fraction choice) e in
      sym p.1 ∙ ap (λ (r : QuantizedGain). chosen xs ys zs r.index) p.1

  same_row : (q : QuantizedGain) → quantize xs ys zs exponent fraction 0 ≡ values q → q.index ≤ 95 → (limit : GainLimit) →
      quantize xs ys zs exponent fraction (limit_number limit) ≡ values q
  unfolding LimitsOfTheEntry
  same_row q e h Unrestricted = e
  same_row q e h Resonance =
      let too = limits_of_the_entry xs ys zs exponent fraction q e in
      let same : too.other ≡ q = of_index 1 too.other too.answered ∙ ap (chosen xs ys zs) (too.beside.equal h) ∙ sym (of_index 0 q e) in
      too.answered ∙ ap values same

  -- ---- refusals
  abbrev inputs : List Check
  inputs = length_is 40 xs ∷ length_is 40 ys ∷ length_is 40 zs ∷ predicted_exponent exponent ∷ power_fraction fraction ∷ []

  -- a refusal of these is the same whatever they let through
  refused_too : {A : Type 0} (u v : A) (n : ℕ) (d : ℤ) → checked inputs refused (values u) ≡ refused n d → checked inputs refused (values v) ≡ refused n d
  refused_too u v n d e = bare (checked inputs refused (values v)) (by_checks (values v) inputs (λ p. refl) ∙ sym (by_checks (values u) inputs (λ p. refl)) ∙ ap (put (λ a. tt)) e)
    where
      bare : {A : Type 0} (t : Told A) → put (λ a. tt {0}) t ≡ refused n d → t ≡ refused n d
      bare (values a) f = no_values (sym f)
      bare (refused m c) f = let g : m ≡ n = cc in let h : c ≡ d = cc in rw (g, h)

  -- a limit that the watch chooses is known, so its check passes
  of_inputs : (limit : GainLimit) (n : ℕ) (d : ℤ) → quantize xs ys zs exponent fraction (limit_number limit) ≡ refused n d → checked inputs refused (values (row (limit_number limit))) ≡ refused n d
  unfolding quantize
  of_inputs Unrestricted n d e = e
  of_inputs Resonance n d e = e

  numbers : Numbered OneSevenOrFourteen inputs
  numbers = (inl refl, (inl refl, (inl refl, (inr (inl refl), (inr (inr refl), tt)))))

  refusals : (w : Stability) (g : ℤ) (n : ℕ) (d : ℤ) → (watched w xs ys zs exponent fraction g).answer ≡ refused n d →
      (quantize xs ys zs exponent fraction 0 ≡ refused n d) × OneSevenOrFourteen n × ((watched w xs ys zs exponent fraction g).after ≡ w)
  unfolding watched quantize
  refusals w g n d e =
      let limit = limit_by w g in
      let f = of_inputs limit n d (of_refused w limit (quantize xs ys zs exponent fraction (limit_number limit)) n d e) in (
        refused_too (row (limit_number limit)) (row 0) n d f,
        numbered OneSevenOrFourteen (values (row (limit_number limit))) n d inputs numbers (λ h. no_values (sym h)) f,
        kept_by_refusal w xs ys zs exponent fraction g n d e,
      )

pub both_callers : BothCallers
unfolding BothCallers
both_callers xs ys zs exponent fraction = (by_watch xs ys zs exponent fraction, by_hand xs ys zs exponent fraction)

pub nothing_changes : NothingChanges
unfolding NothingChanges watched
nothing_changes w xs ys zs exponent fraction g q e h = let r = same_row xs ys zs exponent fraction q e (omega (arith, h)) (limit_by w g) in rw r

pub all_refusals : Refusals
unfolding Refusals
all_refusals w xs ys zs exponent fraction g = refusals xs ys zs exponent fraction w g
