-- 02, request 02: which frames are refused, and what a refusal leaves. With computed frames, accepted and refused.
use Rattle.std.specs.Prelude.{◌≡◌, false, List, ◌∷◌, ◌++◌, ◌⊎◌, replicate, ℕ, ℤ, pos}
use Rattle.refusal.specs.Refused.{values, refused, accepts, put}
use Rattle.refusal.specs.Checks.{Outcome, checked}
use Rattle.pitch.specs.declared.Fraction.TheVariants.{PlusThird}
use Rattle.pitch.specs.declared.Subframe.{Subframe}
use Rattle.pitch.specs.declared.Subframe.TheVariants.{One, Three}
use Rattle.pitch.specs.declared.UpperLag.{UpperLag}
use Rattle.pitch.specs.declared.UpperLag.TheVariants.{Player, Handset}
use Rattle.pitch.specs.Kinds.{fresh_lag}
use Rattle.pitch_search.specs.declared.SearchedPitch.{SearchedPitch}
use Rattle.open_loop.specs.Detectors.{fresh_detector}
use Rattle.frame.specs.declared.FramePitches.{FramePitches}
use Rattle.frame.specs.declared.FrameState.{FrameState}
use Rattle.frame.specs.Frames.{Lists, Subframes, frame_checks, frame_of}

-- 'detector and searcher are as before the frame'
abbrev pub AsBefore : FrameState → List ℤ → Subframes Lists → Type 0
AsBefore σ samples x = accepts (frame_of σ samples x).answer ≡ false → (frame_of σ samples x).after ≡ σ

abbrev pub OneOrFour : ℕ → Type 0
OneOrFour n = (n ≡ 1) ⊎ (n ≡ 4)

-- a handset's frame is accepted where its lengths are right and subframe 1 is expected, else refused by the first of these checks, so by 1 or 4: the detector
-- answers 20 to 143 always, which every search of a handset takes
pub record RefusedByChecks (σ : FrameState) (samples : List ℤ) (x : Subframes Lists) : Type 0 where
  pub by_checks : put (λ p. tt {0}) (frame_of σ samples x).answer ≡ checked (frame_checks σ.searcher samples x) refused (values tt)
  pub by_1_or_4 : (n : ℕ) (d : ℤ) → (frame_of σ samples x).answer ≡ refused n d → OneOrFour n

unfoldable pub FramesRefused : Type 0
FramesRefused =
    (σ : FrameState) (samples : List ℤ) (x : Subframes Lists) →
    AsBefore σ samples x × (σ.searcher.upper ≡ Handset → RefusedByChecks σ samples x)

-- ---- by computing: frames whose subframes are silent, but for the words of target of set two
abbrev pub silent_set : ℕ → Lists
silent_set words = record { excitation = replicate 194 (pos 0); target = replicate words (pos 0); impulse = replicate 40 (pos 0) }

abbrev pub silent_sets : ℕ → Subframes Lists
silent_sets words = record { one = silent_set 40; two = silent_set words; three = silent_set 40; four = silent_set 40 }

abbrev pub framed : FrameState → List ℤ → ℕ → Outcome FramePitches FrameState
framed σ samples words = frame_of σ samples (silent_sets words)

-- a searcher that expects subframe s, with these words before the frame
abbrev pub expecting : UpperLag → Subframe → List ℤ → FrameState
expecting upper s history =
    record {
      detector = record { history_q0 = history };
      searcher = record { previous = fresh_lag; next = s; upper = upper; start = 0 };
    }

abbrev pub silence : ℕ → List ℤ
silence n = replicate n (pos 0)

-- one word of 1000 behind n zeros, and m behind it
abbrev pub pulse : ℕ → ℕ → List ℤ
pulse n m = silence n ++ pos 1000 ∷ silence m

-- on silence: both lags 80, the four answers, and the state after them
abbrev pub found : ℕ → ℕ → SearchedPitch
found samples index = record { lag = record { samples = samples; fraction = PlusThird }; index = index }

abbrev pub on_silence : Outcome FramePitches FrameState
on_silence =
    record {
      answer =
          values (record {
            first = record { 0 = 80 };
            second = record { 0 = 80 };
            one = found 82 189;
            two = found 85 27;
            three = found 82 189;
            four = found 85 27;
          });
      after =
          record {
            detector = fresh_detector;
            searcher = record { previous = (found 85 27).lag; next = One; upper = Handset; start = 77 };
          };
    }

abbrev pub turned_down_by : FrameState → ℕ → ℤ → Outcome FramePitches FrameState
turned_down_by σ n d = record { answer = refused n d; after = σ }

-- accepted; 161 samples before a wrong list; the wrong list before the subframe; the subframe, told as the expected one, before a player's lag; and the lag of
-- 130, by a pulse in the words before the frame and one in its first half, or in its two halves
unfoldable pub Frames : Type 0
Frames =
    (framed (expecting Handset One (silence 143)) (silence 160) 40 ≡ on_silence)
    × (framed (expecting Handset Three (silence 143)) (silence 161) 39 ≡ turned_down_by (expecting Handset Three (silence 143)) 1 (pos 161))
    × (framed (expecting Handset Three (silence 143)) (silence 160) 39 ≡ turned_down_by (expecting Handset Three (silence 143)) 1 (pos 39))
    × (framed (expecting Player Three (pulse 20 122)) (pulse 7 152) 40 ≡ turned_down_by (expecting Player Three (pulse 20 122)) 4 (pos 3))
    × (framed (expecting Player One (pulse 20 122)) (pulse 7 152) 40 ≡ turned_down_by (expecting Player One (pulse 20 122)) 3 (pos 130))
    × (framed (expecting Player One (silence 143)) (pulse 7 79 ++ pulse 50 22) 40
    ≡ turned_down_by (expecting Player One (silence 143)) 3 (pos 130))
