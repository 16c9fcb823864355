-- The statement on frames, and the list with frames in it by computing.
use mathlib.Core.Path.{◌≡◌, refl, ap}
use mathlib.Core.List.{List, ◌++◌}
use Prim.Native.Nat.{ℕ}
use lib.Dec.{leb→le}
use Rattle.refusal.specs.Refused.{values, accepts}
use Rattle.lag_reader.specs.Opens.{reader_opens}
use Rattle.frame.specs.declared.FramePitches.{FramePitches}
use Rattle.frame.specs.Frames.{Subframes, four_searches}
use Rattle.frame.specs.Opens.{frame_opens}
use Rattle.frame.proofs.Parts.{Searched, accepted, unchanged}
use Rattle.recovery.specs.Runs.{State, FrameInput, Entry, frame_state, framed, after_all, run}
use Rattle.recovery.specs.Frames.{as_searches, FramesAsSearches, with_frames, frames_happen, FramesExample}

as_single : (σ : State) (x : FrameInput) (i : Subframes ℕ) (es : List Entry) (p : FramePitches) → Searched σ.searcher x.sets p →
    let ss = framed σ x i (four_searches σ.searcher x.sets p.first.0 p.second.0).four.after (values p) in
    ss ++ run (after_all σ ss) es ≡ run σ (as_searches x i p.first.0 p.second.0 ++ es)
unfolding run
as_single σ x i es p f = rw (f.one, f.two, f.three, f.four)

pub frames_as_searches : FramesAsSearches
unfolding FramesAsSearches run
frames_as_searches σ x i es = (
  λ p h.
      let f = (accepted (frame_state σ.searcher x) x.samples x.sets p h).1 in
      record { first = f.first; second = f.second; steps_alike = rw (h, f.searcher) (as_single σ x i es p f.answers) },
  λ n d h. rw (h, unchanged (frame_state σ.searcher x) x.samples x.sets (ap accepts h)),
)

pub frames_exemplified : FramesExample
unfolding FramesExample run with_frames frames_happen frame_opens reader_opens
frames_exemplified = (
  refl,
  (tt, (leb→le _ _ tt, (leb→le _ _ tt, (leb→le _ _ tt, (leb→le _ _ tt, (leb→le _ _ tt, tt)))))),
  (tt, (tt, (tt, (tt, (tt, (tt, tt)))))),
)
