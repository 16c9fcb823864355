-- 01, 'Feed and program': one step on a record of a feed.
use Rattle.std.specs.Prelude.{Option, List, ℕ, zero, suc, ℤ}
use Rattle.refusal.specs.declared.Step.{Step as Answered}
use Rattle.refusal.specs.Refused.{Told, values, refused}
use Rattle.refusal.specs.Checks.{Outcome}
use Rattle.lag_reader.specs.declared.Reader.{Reader}
use Rattle.lag_reader.specs.Readers.{reset_reader}
use Rattle.pitch_search.specs.declared.Search.{Search}
use Rattle.pitch_search.specs.Searches.{reset_search}
use Rattle.open_loop.specs.declared.Detector.{Detector}
use Rattle.open_loop.specs.Detectors.{fresh_detector}
use Rattle.feed.specs.Records.{Standing, nothing, whole, header, body}
use Rattle.selection_answers.specs.declared.Answer.{Answer}
use Rattle.selection_answers.specs.Lines.{Line, none, reset_line, told_answer}
use Rattle.selection_records.specs.Records.{half_frame, pitch, pulse, gain, filtering, lag_reading}
use Rattle.selection.specs.declared.ClosedLoop.{ClosedLoop}

-- detector, searcher and reader
pub record Selection : Type 0 where
  pub detector : Detector
  pub searcher : Search
  pub reader : Reader

-- what a step answers, detector, searcher and reader after it, and the words beside the answer
pub record Step : Type 0 where
  pub answer : Told Line
  pub after : Selection
  pub words : List ℤ

-- all three as a step takes them: the detector as its old words
abbrev pub selection_of : List ℤ → Search → Reader → Selection
selection_of history searcher reader = record { detector = record { history_q0 = history }; searcher = searcher; reader = reader }

-- the struct so told, with the two lent lists after it
abbrev pub told_lent : Answered (Option Answer) ClosedLoop → List ℤ → List ℤ → Step
told_lent r history ws = record { answer = told_answer r.answer ws; after = selection_of history r.after.searcher r.after.reader; words = ws }

-- an answer, with what stays
abbrev pub said : Selection → List ℤ → Told Line → Step
said s ws a = record { answer = a; after = s; words = ws }

-- all three fresh; searcher and reader keep their upper lags
unfoldable pub reset_selection : Selection → Selection
reset_selection s = record { detector = fresh_detector; searcher = reset_search s.searcher; reader = reset_reader s.reader }

-- ---- the outcome of a record: its answer, and its state in place of the old one
-- the detector's
abbrev pub of_detector : Selection → List ℤ → Outcome Line Detector → Step
of_detector s ws o = said (record { detector = o.after; searcher = s.searcher; reader = s.reader }) ws o.answer

-- the searcher's
abbrev pub of_searcher : Selection → List ℤ → Outcome Line Search → Step
of_searcher s ws o = said (record { detector = s.detector; searcher = o.after; reader = s.reader }) ws o.answer

-- the reader's
abbrev pub of_reader : Selection → List ℤ → Outcome Line Reader → Step
of_reader s ws o = said (record { detector = s.detector; searcher = s.searcher; reader = o.after }) ws o.answer

-- the words'
abbrev pub of_words : Selection → Outcome Line (List ℤ) → Step
of_words s o = said s o.after o.answer

-- '0 reset of detector, searcher and reader'
abbrev pub reset : Selection → List ℤ → Step
reset s ws = said (reset_selection s) ws (values reset_line)

-- by the kind, 0 to 6
unfoldable pub of_kind : Selection → List ℤ → ℕ → List ℕ → Step
of_kind s ws zero bs = reset s ws
of_kind s ws (suc zero) bs = of_detector s ws (half_frame s.detector bs)
of_kind s ws (suc (suc zero)) bs = of_searcher s ws (pitch s.searcher bs)
of_kind s ws (suc (suc (suc zero))) bs = said s ws (pulse bs)
of_kind s ws (suc (suc (suc (suc zero)))) bs = said s ws (gain bs)
of_kind s ws (suc (suc (suc (suc (suc zero))))) bs = of_words s (filtering ws bs)
of_kind s ws (suc (suc (suc (suc (suc (suc k)))))) bs = of_reader s ws (lag_reading s.reader bs)

-- by what stands there; numbers 9 and 10 leave the three as they were
abbrev pub of_standing : Selection → List ℤ → List ℕ → Told Standing → Step
of_standing s ws bs (values nothing) = said s ws (values none)
of_standing s ws bs (values (whole kind next)) = of_kind s ws kind bs
of_standing s ws bs (refused n d) = said s ws (refused n d)

-- the record at a place of a feed, with the words that are lent
unfoldable pub step_lent : Selection → List ℤ → List ℕ → ℕ → Step
step_lent s ws feed at = of_standing s ws (body feed at) (header feed at)
