-- A record that is refused leaves the state of its stage as it was.
use mathlib.Core.Path.{◌≡◌, refl, sym}
use mathlib.Core.Bool.{Bool, true, false, cond}
use mathlib.Core.List.{List, [], ◌∷◌}
use Prim.Native.Nat.{ℕ}
use lib.Dec.{eqb}
use lib.IntN.{ℤ}
use lib.ListN.{length}
use Rattle.fixed.proofs.Clips.{contradiction}
use Rattle.refusal.specs.Refused.{Told, values, refused, accepts, put}
use Rattle.refusal.specs.Checks.{Outcome, length_is, known_subframe, in_order as due-next}
use Rattle.refusal.proofs.Checkings.{kept}
use Rattle.lag_reader.specs.declared.Reader.{Reader}
use Rattle.pitch.specs.Kinds.{subframe_number}
use Rattle.lag_reader.specs.Readers.{relative_index_fits, read}
use Rattle.pitch_search.specs.declared.Search.{Search}
use Rattle.pitch_search.specs.Searches.{search_checks, accepted as found, Pitch_fr}
use Rattle.open_loop.specs.declared.Detector.{Detector}
use Rattle.open_loop.specs.Detectors.{accepted as pushed, Pitch_ol}
use Rattle.target_filtering.specs.declared.PreparedSubframe.{PreparedSubframe}
use Rattle.encoder_filtering.specs.Subframes.{prepare}
use Rattle.selection_answers.specs.Lines.{Line, open_line, pitch_line, lag_line}
use Rattle.selection_records.specs.Records.{no_record, as_line, in_order, with_words, of_filters, half_frame, pitch, filtering, lag_reading}

-- a refusal leaves the state as it was
abbrev pub Keeps : {A S : Type 0} → S → Outcome A S → Type 0
Keeps s o = accepts o.answer ≡ false → o.after ≡ s

-- an answer put another way refuses where it did
put_refuses : {A B : Type 0} (f : A → B) (a : Told A) → accepts (put f a) ≡ false → accepts a ≡ false
put_refuses f (values v) e = e
put_refuses f (refused n d) e = refl

as_line_keeps : {A S : Type 0} (s : S) (f : A → Line) (o : Outcome A S) → Keeps s o → Keeps s (as_line f o)
as_line_keeps s f o h e = h (put_refuses f o.answer e)

words_keep : (old new : List ℤ) (a : Told (Unit {0})) → Keeps old (with_words old new a)
words_keep old new (values u) e = contradiction (sym e)
words_keep old new (refused n d) e = refl

filters_keep : (old : List ℤ) (o : Outcome (Unit {0}) PreparedSubframe) → Keeps old (of_filters old o)
filters_keep old o = words_keep old (in_order o.after) o.answer

whole_keeps : {S : Type 0} (s : S) (o : Outcome Line S) (t : Bool) → Keeps s o → Keeps s (cond t o (no_record s))
whole_keeps s o true h e = h e
whole_keeps s o false h e = refl

-- ---- the stages that have a state
detector_kept : (d : Detector) (xs : List ℤ) → Keeps d (Pitch_ol d xs)
unfolding Pitch_ol
detector_kept d xs = kept d (pushed d xs) (length_is 80 xs ∷ []) refl

searcher_kept : (s : Search) (exc target hs : List ℤ) (first second n : ℕ) → Keeps s (Pitch_fr s exc target hs first second n)
unfolding Pitch_fr
searcher_kept s exc target hs first second n = kept s (found s exc target hs first second) (search_checks s exc target hs first second n) refl

reader_kept : (r : Reader) (n index : ℕ) → Keeps r (read r n index)
unfolding read
reader_kept r n index = kept r _ (known_subframe n ∷ due-next (subframe_number r.next) n ∷ relative_index_fits r.next index ∷ []) refl

-- ---- the records
pub half_frame_keeps : (d : Detector) (bs : List ℕ) → Keeps d (half_frame d bs)
unfolding half_frame
half_frame_keeps d bs = whole_keeps d _ (eqb (length bs) 160) (as_line_keeps d open_line (Pitch_ol d _) (detector_kept d _))

pub pitch_keeps : (s : Search) (bs : List ℕ) → Keeps s (pitch s bs)
unfolding pitch
pitch_keeps s bs = whole_keeps s _ (eqb (length bs) 551) (as_line_keeps s pitch_line (Pitch_fr s _ _ _ _ _ _) (searcher_kept s _ _ _ _ _ _))

pub filtering_keeps : (ws : List ℤ) (bs : List ℕ) → Keeps ws (filtering ws bs)
unfolding filtering
filtering_keeps ws bs = whole_keeps ws _ (eqb (length bs) 184) (filters_keep ws (prepare _ _ _ _ _ _))

pub lag_reading_keeps : (r : Reader) (bs : List ℕ) → Keeps r (lag_reading r bs)
unfolding lag_reading
lag_reading_keeps r bs = whole_keeps r _ (eqb (length bs) 2) (as_line_keeps r lag_line (read r _ _) (reader_kept r _ _))
