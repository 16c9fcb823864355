-- The two lists that a step is lent keep their lengths.
use mathlib.Core.Path.{◌≡◌, refl, ◌∙◌}
use mathlib.Core.Bool.{Bool, true, false}
use mathlib.Core.List.{List, [], ◌∷◌, ◌++◌}
use Prim.Native.Nat.{ℕ, zero, suc}
use lib.Dec.{eqb}
use lib.IntN.{ℤ}
use lib.ListN.{length, length-append}
use Rattle.refusal.specs.Refused.{Told, values, refused}
use Rattle.refusal.specs.Checks.{Check, Outcome, unless_refused}
use Rattle.open_loop.specs.Detectors.{fresh_detector}
use Rattle.open_loop.proofs.Lengths.{kept_length}
use Rattle.target_filtering.specs.declared.PreparedSubframe.{PreparedSubframe}
use Rattle.target_filtering.specs.Subframes.{subframePreProc}
use Rattle.encoder_filtering.specs.Subframes.{read_checks, written_checks, lists, prepare}
use Rattle.target_filtering.proofs.Lengths.{residual_length, impulse_length, target_length, error_length}
use Rattle.feed.specs.Records.{Standing, nothing, whole, header, body}
use Rattle.feed.specs.Words.{words}
use Rattle.fixed.proofs.Bounds.{either}
use Rattle.open_loop.specs.declared.Detector.{Detector}
use Rattle.selection_answers.specs.Lines.{Line}
use Rattle.selection_records.specs.Records.{zeros, in_order, with_words, half_frame, filtering}
use Rattle.selection.specs.Steps.{Selection, Step, reset_selection, of_kind, of_standing, step_lent}

-- what holds of a state and of an accepted one holds of the state after any checks
module _ {A S : Type 0} (P : S → Type 0) (s : S) (a : Outcome A S) (h : P s) (g : P a.after) where
  after_checks : (cs : List Check) → P (unless_refused cs s a).after
  after_checks [] = g
  after_checks (c ∷ cs) = go c.passes refl (after_checks cs)
    where
      go : (t : Bool) → c.passes ≡ t → P (unless_refused cs s a).after → P (unless_refused (c ∷ cs) s a).after
      go true q rest = rw q rest
      go false q rest = rw q h

-- the four lists of `prepare`
abbrev Forty : PreparedSubframe → Type 0
Forty p = (length p.residual_q0 ≡ 40) × (length p.impulse_q12 ≡ 40) × (length p.target_q0 ≡ 40) × (length p.error_q0 ≡ 40)

prepared_forty : (speech cs quantized errors weighting : List ℤ) → Forty (prepare speech cs quantized errors weighting (lists zeros zeros zeros zeros)).after
unfolding prepare
prepared_forty speech cs quantized errors weighting =
    after_checks Forty (lists zeros zeros zeros zeros) (record { answer = values tt; after = subframePreProc speech cs quantized errors weighting })
    (refl, refl, refl, refl) (
      residual_length speech cs quantized errors weighting,
      impulse_length speech cs quantized errors weighting,
      target_length speech cs quantized errors weighting,
      error_length speech cs quantized errors weighting,
    )
    (read_checks speech cs quantized errors weighting (written_checks (lists zeros zeros zeros zeros)))

in_order_length : (p : PreparedSubframe) → Forty p → length (in_order p) ≡ 160
in_order_length p (r, i, t, e) =
    length-append p.residual_q0 _ ∙ rw (length-append p.impulse_q12 (p.target_q0 ++ p.error_q0), length-append p.target_q0 p.error_q0, r, i, t, e)

words_kept : (old new : List ℤ) → length old ≡ 160 → length new ≡ 160 → (a : Told (Unit {0})) → length (with_words old new a).after ≡ 160
words_kept old new o n (values u) = n
words_kept old new o n (refused number d) = o

half_frame_kept : (d : Detector) (bs : List ℕ) → length d.history_q0 ≡ 143 → length (half_frame d bs).after.history_q0 ≡ 143
unfolding half_frame
half_frame_kept d bs h = either (λ (o : Outcome Line Detector). length o.after.history_q0 ≡ 143) (eqb (length bs) 160) _ _ (kept_length d _ h) h

filtering_kept : (ws : List ℤ) (bs : List ℕ) → length ws ≡ 160 → length (filtering ws bs).after ≡ 160
unfolding filtering
filtering_kept ws bs w =
    let o = prepare (words bs 0 50) (words bs 100 11) (words bs 122 11) (words bs 144 10) (words bs 164 10) (lists zeros zeros zeros zeros) in
    either (λ (o : Outcome Line (List ℤ)). length o.after ≡ 160) (eqb (length bs) 184) _ _ (
    words_kept ws (in_order o.after) w (in_order_length o.after (prepared_forty (words bs 0 50) (words bs 100 11) (words bs 122 11) (words bs 144 10) (words bs 164 10))) o.answer
    )
    w

module _ (s : Selection) (ws : List ℤ) (h : length s.detector.history_q0 ≡ 143) (w : length ws ≡ 160) where
  abbrev pub Kept : Step → Type 0
  Kept t = (length t.after.detector.history_q0 ≡ 143) × (length t.words ≡ 160)

  kind_kept : (kind : ℕ) (bs : List ℕ) → Kept (of_kind s ws kind bs)
  unfolding of_kind reset_selection fresh_detector
  kind_kept zero bs = (refl, w)
  kind_kept (suc zero) bs = (half_frame_kept s.detector bs h, w)
  kind_kept (suc (suc zero)) bs = (h, w)
  kind_kept (suc (suc (suc zero))) bs = (h, w)
  kind_kept (suc (suc (suc (suc zero)))) bs = (h, w)
  kind_kept (suc (suc (suc (suc (suc zero))))) bs = (h, filtering_kept ws bs w)
  kind_kept (suc (suc (suc (suc (suc (suc k)))))) bs = (h, w)

  standing_kept : (bs : List ℕ) (t : Told Standing) → Kept (of_standing s ws bs t)
  standing_kept bs (values nothing) = (h, w)
  standing_kept bs (values (whole kind next)) = kind_kept kind bs
  standing_kept bs (refused n d) = (h, w)

  pub step_kept : (feed : List ℕ) (at : ℕ) → Kept (step_lent s ws feed at)
  unfolding step_lent
  step_kept feed at = standing_kept (body feed at) (header feed at)
