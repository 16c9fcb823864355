-- 02, request 02: a whole frame in one call. It has no rule of its own: two detector calls and four searches, as their contracts define them, or nothing at all.
use Rattle.std.specs.Prelude.{List, [], ◌∷◌, ◌++◌, ℕ, ℤ, take, drop}
use Rattle.refusal.specs.Refused.{Told, values, refused, and_then}
use Rattle.refusal.specs.Checks.{Check, Outcome, checked, whole_or_nothing, length_is, in_order}
use Rattle.pitch.specs.Kinds.{subframe_number}
use Rattle.pitch_search.specs.declared.Search.{Search}
use Rattle.pitch_search.specs.declared.SearchedPitch.{SearchedPitch}
use Rattle.pitch_search.specs.Searches.{Pitch_fr}
use Rattle.open_loop.specs.Detectors.{Pitch_ol}
use Rattle.frame.specs.declared.FramePitches.{FramePitches}
use Rattle.frame.specs.declared.FrameState.{FrameState}
use Rattle.frame.specs.declared.SubframeLists.{SubframeLists}

-- of 'the four sets of excitation, target and impulse', one
pub record Lists : Type 0 where
  pub excitation : List ℤ
  pub target : List ℤ
  pub impulse : List ℤ

abbrev pub lists_of : SubframeLists → Lists
lists_of x = record { excitation = x.excitation.now; target = x.target.now; impulse = x.impulse_q12.now }

-- one of each subframe
pub record Subframes (A : Type 0) : Type 0 where
  pub one : A
  pub two : A
  pub three : A
  pub four : A

abbrev pub four_lists : SubframeLists → SubframeLists → SubframeLists → SubframeLists → Subframes Lists
four_lists a b c d = record { one = lists_of a; two = lists_of b; three = lists_of c; four = lists_of d }

-- ---- the parts
-- words 0 to 79, and 80 to 159
abbrev pub first_half : List ℤ → List ℤ
first_half samples = take 80 samples

abbrev pub second_half : List ℤ → List ℤ
second_half samples = take 80 (drop 80 samples)

-- the search of a set as subframe n, by both open-loop lags
abbrev pub searched_with : Search → Lists → ℕ → ℕ → ℕ → Outcome SearchedPitch Search
searched_with s x first second n = Pitch_fr s x.excitation x.target x.impulse first second n

-- 'four searches', each with the searcher that the last one left
abbrev pub four_searches : Search → Subframes Lists → ℕ → ℕ → Subframes (Outcome SearchedPitch Search)
four_searches s x first second =
    let a = searched_with s x.one first second 1 in
    let b = searched_with a.after x.two first second 2 in
    let c = searched_with b.after x.three first second 3 in
    let d = searched_with c.after x.four first second 4 in
    record { one = a; two = b; three = c; four = d }

-- both lags and four pitch answers
abbrev pub pitches : ℕ → ℕ → Subframes SearchedPitch → FramePitches
pitches first second p =
    record {
      first = record { 0 = first };
      second = record { 0 = second };
      one = p.one;
      two = p.two;
      three = p.three;
      four = p.four;
    }

-- all four answers, or the first refusal among them
abbrev pub all_four : {A S : Type 0} → Subframes (Outcome A S) → Told (Subframes A)
all_four o =
    and_then o.one.answer (λ a. and_then o.two.answer (λ b. and_then o.three.answer (λ c. and_then o.four.answer (λ d.
    values (record { one = a; two = b; three = c; four = d })))))

-- what four searches answer with lags that are told, and the searcher that the last one left
abbrev pub with_lags : Search → Subframes Lists → ℕ → ℕ → Told (FramePitches × Search)
with_lags s x first second =
    let o = four_searches s x first second in
    and_then (all_four o) (λ p. values (pitches first second p, o.four.after))

-- 'two detector calls followed by four searches'
abbrev pub parts : FrameState → List ℤ → Subframes Lists → Told (FramePitches × FrameState)
parts σ samples x =
    let a = Pitch_ol σ.detector (first_half samples) in
    let b = Pitch_ol a.after (second_half samples) in
    and_then a.answer (λ first. and_then b.answer (λ second. and_then (with_lags σ.searcher x first second) (λ o.
    values (o.0, record { detector = b.after; searcher = o.1 }))))

-- ---- the checks
abbrev pub lengths_of : Lists → List Check
lengths_of x = length_is 194 x.excitation ∷ length_is 40 x.target ∷ length_is 40 x.impulse ∷ []

-- 'Lengths are checked over all lists first, the samples, then set by set.'
abbrev pub frame_lengths : List ℤ → Subframes Lists → List Check
frame_lengths samples x = length_is 160 samples ∷ (lengths_of x.one ++ (lengths_of x.two ++ (lengths_of x.three ++ lengths_of x.four)))

-- 'A searcher that doesn't expect subframe 1 gets number 4 next.'
abbrev pub frame_checks : Search → List ℤ → Subframes Lists → List Check
frame_checks s samples x = frame_lengths samples x ++ in_order (subframe_number s.next) 1 ∷ []

-- the frame: 'If any part is refused, its number and detail come back, and detector and searcher are as before the frame.'
abbrev pub checked_parts : FrameState → List ℤ → Subframes Lists → Told (FramePitches × FrameState)
checked_parts σ samples x = checked (frame_checks σ.searcher samples x) refused (parts σ samples x)

unfoldable pub frame_of : FrameState → List ℤ → Subframes Lists → Outcome FramePitches FrameState
frame_of σ samples x = whole_or_nothing σ (checked_parts σ samples x)
