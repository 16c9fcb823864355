-- What an accepted frame tells of its parts, and that a refused one leaves its state as it was.
use mathlib.Core.Path.{◌≡◌, refl, ap, ◌∙◌}
use mathlib.Core.Bool.{false}
use mathlib.Core.List.{List}
use Prim.Native.Nat.{ℕ}
use lib.IntN.{ℤ}
use Rattle.refusal.specs.Refused.{values, accepts}
use Rattle.refusal.specs.Checks.{Outcome}
use Rattle.refusal.proofs.Checkings.{Passes, value_or}
use Rattle.refusal.proofs.Answers.{follows, checked_values, whole, nothing}
use Rattle.pitch_search.specs.declared.Search.{Search}
use Rattle.pitch_search.specs.declared.SearchedPitch.{SearchedPitch}
use Rattle.open_loop.specs.declared.Detector.{Detector}
use Rattle.open_loop.specs.Detectors.{Pitch_ol}
use Rattle.frame.specs.declared.FramePitches.{FramePitches}
use Rattle.frame.specs.declared.FrameState.{FrameState}
use Rattle.frame.specs.Frames.{Lists, Subframes, first_half, second_half, four_searches, pitches, all_four, with_lags, parts, frame_checks, frame_of}

-- four answers
pub record FourAnswers {A S : Type 0} (o : Subframes (Outcome A S)) (p : Subframes A) : Type 0 where
  pub one : o.one.answer ≡ values p.one
  pub two : o.two.answer ≡ values p.two
  pub three : o.three.answer ≡ values p.three
  pub four : o.four.answer ≡ values p.four

four_answers : {A S : Type 0} (o : Subframes (Outcome A S)) (p : Subframes A) → all_four o ≡ values p → FourAnswers o p
four_answers o p e =
    let a = follows o.one.answer _ p e in
    let b = follows o.two.answer _ p a.rest in
    let c = follows o.three.answer _ p b.rest in
    let d = follows o.four.answer _ p c.rest in
    let r = ap (value_or p) d.rest in
    record {
      one = a.told ∙ ap (λ q. values q.one) r;
      two = b.told ∙ ap (λ q. values q.two) r;
      three = c.told ∙ ap (λ q. values q.three) r;
      four = d.told ∙ ap (λ q. values q.four) r;
    }

-- four pitch answers, by searches with the lags that stand beside them
abbrev pub Searched : Search → Subframes Lists → FramePitches → Type 0
Searched s x p = FourAnswers (four_searches s x p.first.0 p.second.0) (record { one = p.one; two = p.two; three = p.three; four = p.four })

-- what the parts of an accepted frame answer, and leave
pub record PartsOf (σ : FrameState) (samples : List ℤ) (x : Subframes Lists) (p : FramePitches) (τ : FrameState) : Type 0 where
  pub first : (Pitch_ol σ.detector (first_half samples)).answer ≡ values p.first.0
  pub second : (Pitch_ol (Pitch_ol σ.detector (first_half samples)).after (second_half samples)).answer ≡ values p.second.0
  pub answers : Searched σ.searcher x p
  pub detector : τ.detector ≡ (Pitch_ol (Pitch_ol σ.detector (first_half samples)).after (second_half samples)).after
  pub searcher : τ.searcher ≡ (four_searches σ.searcher x p.first.0 p.second.0).four.after

module _ (σ : FrameState) (samples : List ℤ) (x : Subframes Lists) where
  abbrev halved : Outcome ℕ Detector
  halved = Pitch_ol σ.detector (first_half samples)

  abbrev pushed : Outcome ℕ Detector
  pushed = Pitch_ol halved.after (second_half samples)

  -- of two lags and four answers that are told
  parts_with : (first second : ℕ) (q : Subframes SearchedPitch) (r : FramePitches × Search) (p : FramePitches) (τ : FrameState) →
      halved.answer ≡ values first → pushed.answer ≡ values second → all_four (four_searches σ.searcher x first second) ≡ values q →
      ◌≡◌ {A = FramePitches × Search} (pitches first second q, (four_searches σ.searcher x first second).four.after) r →
      ◌≡◌ {A = FramePitches × FrameState} (r.0, record { detector = pushed.after; searcher = r.1 }) (p, τ) →
      PartsOf σ samples x p τ
  parts_with first second q r p τ a b o g h =
      let state : Search → FrameState = λ s. record { detector = pushed.after; searcher = s } in
      let found = ap (λ z. z.0) g ∙ ap (λ z. z.0) h in
      let after = ap (λ z. state z.1) g ∙ ap (λ z. z.1) h in
      rw (← found, ← after)
      (record { first = a; second = b; answers = four_answers (four_searches σ.searcher x first second) q o; detector = refl; searcher = refl })

  parts_of : (p : FramePitches) (τ : FrameState) → parts σ samples x ≡ values (p, τ) → PartsOf σ samples x p τ
  parts_of p τ e =
      let a = follows halved.answer _ (p, τ) e in
      let b = follows pushed.answer _ (p, τ) a.rest in
      let c = follows (with_lags σ.searcher x a.value b.value) _ (p, τ) b.rest in
      let d = follows (all_four (four_searches σ.searcher x a.value b.value)) _ c.value c.told in
      parts_with a.value b.value d.value c.value p τ a.told b.told d.told (ap (value_or c.value) d.rest) (ap (value_or (p, τ)) c.rest)

  pub accepted : (p : FramePitches) → (frame_of σ samples x).answer ≡ values p →
      Passes (frame_checks σ.searcher samples x) × PartsOf σ samples x p (frame_of σ samples x).after
  unfolding frame_of
  accepted p e =
      let r = checked_values (parts σ samples x) _ (frame_checks σ.searcher samples x) (whole σ _ p e) in
      (r.0, parts_of p _ r.1)

  -- 'detector and searcher are as before the frame'
  pub unchanged : accepts (frame_of σ samples x).answer ≡ false → (frame_of σ samples x).after ≡ σ
  unfolding frame_of
  unchanged e = nothing σ _ e
