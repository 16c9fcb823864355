-- The proofs of the statements on the calls since fresh.
use mathlib.Core.Path.{◌≡◌, refl, sym, ◌∙◌}
use mathlib.Core.Bool.{Bool, true, false, cond}
use mathlib.Core.List.{List, [], ◌∷◌, ◌++◌}
use mathlib.Core.Logic.{◌⊎◌, inl, inr}
use Prim.Native.Nat.{ℕ, zero, suc, ◌<◌, ◌≤◌}
use native.Mathlib.Omega.{arith}
use lib.Dec.{eqb, leb}
use lib.IntN.{ℤ, pos}
use lib.ListN.{length, replicate, take}
use Rattle.std.proofs.Common.{min, reverse}
use Rattle.std.proofs.Math.Dec.{leb-zero, leb-suc-zero, leb-suc-suc}
use Rattle.std.proofs.lemmas.Bool.{le-leb, lt-leb}
use Rattle.std.proofs.lemmas.Bool.Decides.{leb_tells}
use Rattle.fixed.specs.Lists.{part, tabulate, tabulate_from}
use Rattle.refusal.specs.Refused.{Told, values, refused, put}
use Rattle.refusal.specs.Checks.{whole_or_nothing}
use Rattle.gain_limit.specs.declared.GainLimit.{GainLimit}
use Rattle.gain_limit.specs.Limits.{limit_number}
use Rattle.gain.specs.declared.QuantizedGain.{QuantizedGain}
use Rattle.gain.specs.Rows.{quantize}
use Rattle.encoder_stability.specs.declared.Stability.{Stability}
use Rattle.encoder_stability.specs.Watch.{close, counted, with_count, eighth, limit_by, with_row, observed, watched}
use Rattle.encoder_stability.specs.Runs.{Call, observe, stage, after_calls, closes, latest, TwelveInARow, and_gain, gains_of, SevenLatest}

-- ---- the count
-- how many of the latest are true
abbrev lead : List Bool → ℕ
lead [] = 0
lead (b ∷ bs) = cond b (suc (lead bs)) 0

latest_lead : (n : ℕ) (bs : List Bool) → latest n bs ≡ leb n (lead bs)
latest_lead zero bs = sym (leb-zero (lead bs))
latest_lead (suc n) [] = sym (leb-suc-zero n)
latest_lead (suc n) (true ∷ bs) = latest_lead n bs ∙ sym (leb-suc-suc n (lead bs))
latest_lead (suc n) (false ∷ bs) = sym (leb-suc-zero n)

held_too : (n : ℕ) → leb 12 (min n 12) ≡ leb 12 n
held_too n = go (leb_tells 12 n)
  where
    go : ((leb 12 n ≡ true) × (12 ≤ n)) ⊎ ((leb 12 n ≡ false) × (n < 12)) → leb 12 (min n 12) ≡ leb 12 n
    go (inl (t, h)) = le-leb 12 (min n 12) (omega (arith, h)) ∙ sym t
    go (inr (f, h)) = lt-leb 12 (min n 12) (omega (arith, h)) ∙ sym f

counted_lead : (b : Bool) (n : ℕ) (bs : List Bool) → n ≡ min (lead bs) 12 → counted b n ≡ min (lead (b ∷ bs)) 12
counted_lead true n bs e = omega (arith, e)
counted_lead false n bs e = refl

-- a stage keeps the count, and a spectrum the gains
module _ (w : Stability) (limit : GainLimit) where
  stage_count : (t : Told QuantizedGain) → (whole_or_nothing w (put (with_row w limit) t)).after.count ≡ w.count
  stage_count (values q) = refl
  stage_count (refused n d) = refl

count_is : (cs : List Call) → (after_calls cs).count ≡ min (lead (closes cs)) 12
unfolding observed watched
count_is [] = refl
count_is (observe xs ∷ cs) = go (eqb (length xs) 10) (count_is cs)
  where
    w : Stability
    w = after_calls cs

    go : (t : Bool) → w.count ≡ min (lead (closes cs)) 12 →
        (cond t (with_count w (counted (close xs) w.count)) (record { answer = refused 1 (pos (length xs)); after = w })).after.count
        ≡ min (lead (cond t (close xs ∷ closes cs) (closes cs))) 12
    go true e = counted_lead (close xs) w.count (closes cs) e
    go false e = e
count_is (stage xs ys zs exponent fraction g ∷ cs) =
    let w = after_calls cs in
    let limit = limit_by w g in
    stage_count w limit (quantize xs ys zs exponent fraction (limit_number limit)) ∙ count_is cs

pub twelve_in_a_row : TwelveInARow
unfolding TwelveInARow
twelve_in_a_row cs = rw (count_is cs) (held_too (lead (closes cs)) ∙ sym (latest_lead 12 (closes cs)))

-- ---- the gains
abbrev kept : List ℤ → List ℤ
kept gs = reverse (take 7 (gs ++ replicate 7 (pos 0)))

push : (g : ℤ) (gs : List ℤ) → part (kept gs) 1 6 ++ g ∷ [] ≡ kept (g ∷ gs)
unfolding part tabulate tabulate_from
push g [] = refl
push g (a ∷ []) = refl
push g (a ∷ b ∷ []) = refl
push g (a ∷ b ∷ c ∷ []) = refl
push g (a ∷ b ∷ c ∷ d ∷ []) = refl
push g (a ∷ b ∷ c ∷ d ∷ e ∷ []) = refl
push g (a ∷ b ∷ c ∷ d ∷ e ∷ f ∷ []) = refl
push g (a ∷ b ∷ c ∷ d ∷ e ∷ f ∷ h ∷ gs) = refl

-- a spectrum keeps the gains
spectrum_gains : (w : Stability) (xs : List ℤ) → (observed w xs).after.gains_q11 ≡ w.gains_q11
unfolding observed
spectrum_gains w xs = go (eqb (length xs) 10)
  where
    go : (t : Bool) → (cond t (with_count w (counted (close xs) w.count)) (record { answer = refused 1 (pos (length xs)); after = w })).after.gains_q11 ≡ w.gains_q11
    go true = refl
    go false = refl

stage_gains : (w : Stability) (limit : GainLimit) (gs : List ℤ) → w.gains_q11 ≡ kept gs → (t : Told QuantizedGain) →
    (whole_or_nothing w (put (with_row w limit) t)).after.gains_q11 ≡ kept (and_gain (whole_or_nothing w (put (with_row w limit) t)).answer gs)
stage_gains w limit gs e (values q) = rw e (push (eighth q.row.pitch_q14) gs)
stage_gains w limit gs e (refused n d) = e

gains_are : (cs : List Call) → (after_calls cs).gains_q11 ≡ kept (gains_of cs)
unfolding watched
gains_are [] = refl
gains_are (observe xs ∷ cs) = spectrum_gains (after_calls cs) xs ∙ gains_are cs
gains_are (stage xs ys zs exponent fraction g ∷ cs) =
    let limit = limit_by (after_calls cs) g in
    stage_gains (after_calls cs) limit (gains_of cs) (gains_are cs) (quantize xs ys zs exponent fraction (limit_number limit))

pub seven_latest : SevenLatest
unfolding SevenLatest
seven_latest = gains_are
