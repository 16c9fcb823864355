-- The statement on refused frames, and the computed frames.
use mathlib.Core.Path.{◌≡◌, refl, sym, ap, ◌∙◌}
use mathlib.Core.Bool.{true}
use mathlib.Core.List.{List, [], ◌∷◌}
use mathlib.Core.Logic.{inl, inr}
use Prim.Native.Nat.{ℕ, ◌≤◌}
use native.Mathlib.Omega.{arith}
use lib.Dec.{eqb}
use lib.IntN.{ℤ}
use lib.ListN.{length, drop}
use borrow.Author.Tests.{eqb-true, le-leb}
use Rattle.std.proofs.lemmas.List.{length-take-le, length-drop}
use Rattle.refusal.specs.Refused.{values, accepts, put}
use Rattle.refusal.specs.Checks.{Check, Outcome, within, length_is}
use Rattle.refusal.proofs.Checkings.{Passes, value_or, passed}
use Rattle.refusal.proofs.Answers.{no_values, accepts_next, by_checks, Numbered, numbered, without_state}
use Rattle.pitch.specs.declared.Subframe.{Subframe}
use Rattle.pitch.specs.declared.Subframe.TheVariants.{One, Two, Three, Four}
use Rattle.pitch.specs.declared.UpperLag.TheVariants.{Handset}
use Rattle.pitch.specs.Kinds.{subframe_number, following}
use Rattle.pitch_search.specs.declared.Search.{Search}
use Rattle.pitch_search.specs.declared.SearchedPitch.{SearchedPitch}
use Rattle.pitch_search.specs.Searches.{accepted, search_checks, Pitch_fr}
use Rattle.open_loop_sections.specs.Sections.{lag_of}
use Rattle.open_loop_sections.proofs.Lags.{lag_in}
use Rattle.open_loop.specs.declared.Detector.{Detector}
use Rattle.open_loop.specs.Detectors.{joined, Pitch_ol, accepted as pushed_in}
use Rattle.frame.specs.declared.FrameState.{FrameState}
use Rattle.frame.specs.Frames.{Lists, Subframes, first_half, second_half, searched_with, four_searches, all_four, with_lags, parts, lengths_of, frame_checks, checked_parts, frame_of}
use Rattle.frame.specs.Statement.{OneOrFour, RefusedByChecks, FramesRefused, Frames}
use Rattle.frame.specs.Opens.{frame_opens}
use Rattle.frame.proofs.Parts.{unchanged}

all_accepted : {A S : Type 0} (o : Subframes (Outcome A S)) → accepts o.one.answer ≡ true → accepts o.two.answer ≡ true → accepts o.three.answer ≡ true →
    accepts o.four.answer ≡ true → accepts (all_four o) ≡ true
all_accepted o a b c d =
    accepts_next o.one.answer _ a (λ p e. accepts_next o.two.answer _ b (λ q e. accepts_next o.three.answer _ c (λ r e. accepts_next o.four.answer _ d (λ t e. refl))))

-- ---- the parts of a handset's frame
abbrev In : ℕ → Type 0
In lag = within 20 143 lag ≡ true

in_range : (n : ℕ) → (20 ≤ n) × (n ≤ 143) → In n
in_range n (l, h) = rw (le-leb 20 n l, le-leb n 143 h)

-- a half frame is taken, and the detector's lag is in range
module _ (d : Detector) (new : List ℤ) (l : length new ≡ 80) where
  taken : Pitch_ol d new ≡ pushed_in d new
  unfolding Pitch_ol
  taken = passed d (pushed_in d new) (length_is 80 new ∷ []) (rw l, tt)

  lag_told : accepts (Pitch_ol d new).answer ≡ true
  lag_told = rw taken

  lag_range : (a : ℕ) → (Pitch_ol d new).answer ≡ values a → In a
  lag_range a e =
      let same : a ≡ lag_of (joined d.history_q0 new) = ap (value_or a) (sym e ∙ ap (λ (o : Outcome ℕ Detector). o.answer) taken) in
      rw same (in_range _ (lag_in (joined d.history_q0 new)))

-- a search that is accepted, and the searcher after it
record Found (s : Search) (o : Outcome SearchedPitch Search) : Type 0 where
  told : accepts o.answer ≡ true
  next : o.after.next ≡ following s.next
  upper : o.after.upper ≡ s.upper

-- the search of the expected subframe
found : (s : Search) (x : Lists) (first second n : ℕ) → s.upper ≡ Handset → n ≡ subframe_number s.next → Passes (lengths_of x) → In first → In second →
    Found s (searched_with s x first second n)
unfolding Pitch_fr
found s x first second n u e (a, (b, (c, z))) l m =
    rw (passed s (accepted s x.excitation x.target x.impulse first second) (search_checks s x.excitation x.target x.impulse first second n) all)
    (record { told = refl; next = refl; upper = refl })
  where
    expected : (t : Subframe) → n ≡ subframe_number t → (within 1 4 n ≡ true) × (eqb n (subframe_number t) ≡ true)
    expected One e = (rw e, rw e)
    expected Two e = (rw e, rw e)
    expected Three e = (rw e, rw e)
    expected Four e = (rw e, rw e)

    all : Passes (search_checks s x.excitation x.target x.impulse first second n)
    all = (a, (b, (c, ((expected s.next e).0, (rw u l, (rw u m, ((expected s.next e).1, tt)))))))

-- ---- the statement
module _ (σ : FrameState) (samples : List ℤ) (x : Subframes Lists) (u : σ.searcher.upper ≡ Handset) where
  abbrev checks : List Check
  checks = frame_checks σ.searcher samples x

  searches_accepted : (first second : ℕ) → σ.searcher.next ≡ One → Passes (lengths_of x.one) → Passes (lengths_of x.two) →
      Passes (lengths_of x.three) → Passes (lengths_of x.four) → In first → In second → accepts (with_lags σ.searcher x first second) ≡ true
  searches_accepted first second n a b c d l m =
      let o = four_searches σ.searcher x first second in
      let one = found σ.searcher x.one first second 1 u (rw n) a l m in
      let is_two = one.next ∙ ap following n in
      let two = found o.one.after x.two first second 2 (one.upper ∙ u) (rw is_two) b l m in
      let is_three = two.next ∙ ap following is_two in
      let three = found o.two.after x.three first second 3 (two.upper ∙ one.upper ∙ u) (rw is_three) c l m in
      let is_four = three.next ∙ ap following is_three in
      let four = found o.three.after x.four first second 4 (three.upper ∙ two.upper ∙ one.upper ∙ u) (rw is_four) d l m in
      accepts_next (all_four o) _ (all_accepted o one.told two.told three.told four.told) (λ p e. refl)

  of_number_1 : (t : Subframe) → 1 ≡ subframe_number t → t ≡ One
  of_number_1 One e = refl
  of_number_1 Two e = absurd (omega arith)
  of_number_1 Three e = absurd (omega arith)
  of_number_1 Four e = absurd (omega arith)

  parts_accepted : Passes checks → accepts (parts σ samples x) ≡ true
  parts_accepted (n, (a1, (a2, (a3, (b1, (b2, (b3, (c1, (c2, (c3, (d1, (d2, (d3, (o, z)))))))))))))) =
      let h = eqb-true (length samples) 160 n in
      let first_long = length-take-le 80 samples (omega (arith, h)) in
      let second_long = length-take-le 80 (drop 80 samples) (omega (arith, length-drop 80 samples, h)) in
      let is_one = of_number_1 σ.searcher.next (eqb-true 1 (subframe_number σ.searcher.next) o) in
      let halved = (Pitch_ol σ.detector (first_half samples)).after in
      accepts_next (Pitch_ol σ.detector (first_half samples)).answer _ (lag_told σ.detector (first_half samples) first_long)
      (λ first e. accepts_next (Pitch_ol halved (second_half samples)).answer _ (lag_told halved (second_half samples) second_long)
      (λ second f. accepts_next (with_lags σ.searcher x first second) _
      (searches_accepted first second is_one (a1, (a2, (a3, tt))) (b1, (b2, (b3, tt))) (c1, (c2, (c3, tt))) (d1, (d2, (d3, tt)))
      (lag_range σ.detector (first_half samples) first_long first e)
      (lag_range halved (second_half samples) second_long second f))
      (λ r g. refl)))

  pub refused_by_checks : RefusedByChecks σ samples x
  unfolding frame_of
  refused_by_checks =
      let told = without_state σ (checked_parts σ samples x) ∙ by_checks (parts σ samples x) checks parts_accepted in
      record {
        by_checks = told;
        by_1_or_4 = λ n d e.
            numbered OneOrFour (values tt) n d checks numbers (λ f. no_values (sym f)) (sym told ∙ ap (put (λ a. tt {0})) e);
      }
    where
      one : OneOrFour 1
      one = inl refl

      numbers : Numbered OneOrFour checks
      numbers = (one, (one, (one, (one, (one, (one, (one, (one, (one, (one, (one, (one, (one, (inr refl, tt))))))))))))))

pub frames_refused : FramesRefused
unfolding FramesRefused
frames_refused σ samples x = (unchanged σ samples x, λ u. refused_by_checks σ samples x u)

pub frames : Frames
unfolding Frames frame_opens
frames = (refl, refl, refl, refl, refl, refl)
