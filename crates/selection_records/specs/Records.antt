-- 01, 'Feed and program': what a record of each kind but the reset answers, from the stages' own definitions on the words of its body.
use Rattle.std.specs.Prelude.{Option, Result, cond, List, ◌++◌, ℕ, eqb, ℤ, pos, length, get_or, replicate}
use Rattle.refusal.specs.declared.Refusal.{Refusal}
use Rattle.refusal.specs.Refused.{Told, values, refused, put}
use Rattle.refusal.specs.Checks.{Outcome}
use Rattle.lag_reader.specs.declared.Reader.{Reader}
use Rattle.lag_reader.specs.Readers.{read}
use Rattle.pitch_search.specs.declared.Search.{Search}
use Rattle.pitch_search.specs.Searches.{Pitch_fr}
use Rattle.open_loop.specs.declared.Detector.{Detector}
use Rattle.open_loop.specs.Detectors.{Pitch_ol}
use Rattle.target_filtering.specs.declared.PreparedSubframe.{PreparedSubframe}
use Rattle.encoder_filtering.specs.Subframes.{lists, prepare}
use Rattle.codebook_search.specs.Pulses.{lent, pulses}
use Rattle.gain.specs.Rows.{quantize}
use Rattle.feed.specs.Words.{number_at, word_at, words}
use Rattle.selection_answers.specs.declared.Answer.{Answer}
use Rattle.selection_answers.specs.Lines.{Line, none, open_line, pitch_line, pulse_line, gain_line, filter_line, lag_line, told_answer}

-- an answer as 01 gives it, with the words beside it, and the state after it
abbrev pub told_with : {S : Type 0} → Result (Option Answer) Refusal → List ℤ → S → Outcome Line S
told_with a ws s = record { answer = told_answer a ws; after = s }

-- a body that has not the kind's length is no record of that kind: no line, and the state as it was
abbrev pub no_record : {S : Type 0} → S → Outcome Line S
no_record s = record { answer = values none; after = s }

-- the outcome of a stage, its answer as a line
abbrev pub as_line : {A S : Type 0} → (A → Line) → Outcome A S → Outcome Line S
as_line f o = record { answer = put f o.answer; after = o.after }

-- 40 zeros: a list that is lent and not told
abbrev pub zeros : List ℤ
zeros = replicate 40 (pos 0)

-- 'the 160 words of residual, impulse, target, error'
abbrev pub in_order : PreparedSubframe → List ℤ
in_order p = p.residual_q0 ++ (p.impulse_q12 ++ (p.target_q0 ++ p.error_q0))

-- which stand in the lent list too, in place of the old ones, where no list has another length
abbrev pub with_words : List ℤ → List ℤ → Told (Unit {0}) → Outcome Line (List ℤ)
with_words old ws (values u) = record { answer = values (filter_line ws); after = ws }
with_words old ws (refused n d) = record { answer = refused n d; after = old }

-- `prepare`'s outcome
abbrev pub of_filters : List ℤ → Outcome (Unit {0}) PreparedSubframe → Outcome Line (List ℤ)
of_filters old o = with_words old (in_order o.after) o.answer

-- ---- the kinds
-- '1 half frame, 160'
unfoldable pub half_frame : Detector → List ℕ → Outcome Line Detector
half_frame d bs = cond (eqb (length bs) 160) (as_line open_line (Pitch_ol d (words bs 0 80))) (no_record d)

-- '2 pitch, 551: subframe byte, 194 excitation words, target, impulse, two lag bytes'
unfoldable pub pitch : Search → List ℕ → Outcome Line Search
pitch s bs =
    cond (eqb (length bs) 551)
    (as_line pitch_line (Pitch_fr s (words bs 1 194) (words bs 389 40) (words bs 469 40) (get_or bs 549 0) (get_or bs 550 0) (get_or bs 0 0)))
    (no_record s)

-- '3 pulses, 163: target, impulse, lag byte, gain'
unfoldable pub pulse : List ℕ → Told Line
pulse bs =
    cond (eqb (length bs) 163)
    (put pulse_line (pulses (words bs 0 40) (words bs 80 40) (get_or bs 160 0) (record { 0 = word_at bs 161 }) (lent zeros zeros zeros)).answer)
    (values none)

-- '4 gain, 245: target, adaptive, filtered, exponent, unsigned fraction, limit byte'
unfoldable pub gain : List ℕ → Told Line
gain bs =
    cond (eqb (length bs) 245)
    (put gain_line (quantize (words bs 0 40) (words bs 80 40) (words bs 160 40) (word_at bs 240) (number_at bs 242) (get_or bs 244 0)))
    (values none)

-- '5 filtering, 184: 50, 11, 11, 10, 10 words in `prepare`'s order'; the state is the lent list
unfoldable pub filtering : List ℤ → List ℕ → Outcome Line (List ℤ)
filtering ws bs =
    cond (eqb (length bs) 184)
    (of_filters ws (prepare (words bs 0 50) (words bs 100 11) (words bs 122 11) (words bs 144 10) (words bs 164 10) (lists zeros zeros zeros zeros)))
    (no_record ws)

-- '6 lag reading, 2: subframe, index'
unfoldable pub lag_reading : Reader → List ℕ → Outcome Line Reader
lag_reading r bs = cond (eqb (length bs) 2) (as_line lag_line (read r (get_or bs 0 0) (get_or bs 1 0))) (no_record r)
