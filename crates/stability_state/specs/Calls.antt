-- The watch in numbers, a count and a lent list of seven gains, from 02's request 04. Every count is taken.
use Rattle.std.specs.Prelude.{◌≡◌, Bool, List, [], ◌∷◌, ◌++◌, ℕ, ℤ, pos, negsuc, replicate}
use Rattle.refusal.specs.Refused.{Told, values, refused}
use Rattle.refusal.specs.Checks.{Check, Outcome, checked, unless_refused, length_is}
use Rattle.gain_limit.specs.declared.GainLimit.{GainLimit}
use Rattle.encoder_stability.specs.declared.Stability.{Stability}
use Rattle.encoder_stability.specs.declared.WatchedGain.{WatchedGain}
use Rattle.encoder_stability.specs.Watch.{watch_of, observed, limit_by, watched}

-- ---- the spectrum: the count alone, since it neither reads nor changes the gains
abbrev pub kept_count : Outcome Bool Stability → Outcome Bool ℕ
kept_count o = record { answer = o.answer; after = o.after.count }

unfoldable pub spectrum_in_numbers : List ℤ → ℕ → Outcome Bool ℕ
spectrum_in_numbers lsp count = kept_count (observed (watch_of count (replicate 7 (pos 0))) lsp)

-- ---- the limit, behind number 1 for the gains
unfoldable pub limit_in_numbers : ℤ → ℕ → List ℤ → Told GainLimit
limit_in_numbers g count gains = checked (length_is 7 gains ∷ []) refused (values (limit_by (watch_of count gains) g))

-- ---- the stage: the gains are a list to be written, so their length is looked at last of the lists; the stage's 7 and 14 come after it
abbrev pub watched_lengths : List ℤ → List ℤ → List ℤ → List ℤ → List Check
watched_lengths xs ys zs gains = length_is 40 xs ∷ length_is 40 ys ∷ length_is 40 zs ∷ length_is 7 gains ∷ []

abbrev pub kept_gains : Outcome WatchedGain Stability → Outcome WatchedGain (List ℤ)
kept_gains o = record { answer = o.answer; after = o.after.gains_q11 }

-- an answer, and the gains after it
abbrev pub told_gain : Told WatchedGain → List ℤ → Outcome WatchedGain (List ℤ)
told_gain answer gains = record { answer = answer; after = gains }

unfoldable pub gain_in_numbers : List ℤ → List ℤ → List ℤ → ℤ → ℕ → ℤ → ℕ → List ℤ → Outcome WatchedGain (List ℤ)
gain_in_numbers xs ys zs exponent fraction g count gains =
    unless_refused (watched_lengths xs ys zs gains) gains (kept_gains (watched (watch_of count gains) xs ys zs exponent fraction g))

-- ---- by computing, with all lists 0: six stored gains are named behind the target's 39 words and before an exponent of 128, and that before a fraction
-- of 32768; no refusal writes
abbrev pub refused_gain : ℕ → ℕ → ℤ → ℕ → Outcome WatchedGain (List ℤ)
refused_gain target gains exponent fraction =
    gain_in_numbers (replicate target (pos 0)) (replicate 40 (pos 0)) (replicate 40 (pos 0)) exponent fraction (pos 16000) 12 (replicate gains (pos 5))

unfoldable pub GainsInNumbers : Type 0
GainsInNumbers =
    (refused_gain 39 6 (pos 128) 32768 ≡ told_gain (refused 1 (pos 39)) (replicate 6 (pos 5)))
    × (refused_gain 40 6 (pos 128) 32768 ≡ told_gain (refused 1 (pos 6)) (replicate 6 (pos 5)))
    × (refused_gain 40 7 (pos 128) 32768 ≡ told_gain (refused 7 (pos 128)) (replicate 7 (pos 5)))
    × (refused_gain 40 7 (pos 127) 32768 ≡ told_gain (refused 14 (pos 32768)) (replicate 7 (pos 5)))
    × ((refused_gain 40 7 (negsuc 19) 32767).after ≡ replicate 6 (pos 5) ++ pos 2049 ∷ [])
