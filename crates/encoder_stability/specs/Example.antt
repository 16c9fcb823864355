-- The watch computed: the ends of its tests, a stage that it limits, a refused one, and calls since fresh.
use Rattle.std.specs.Prelude.{◌≡◌, true, false, List, [], ◌∷◌, ◌++◌, ℕ, ℤ, pos, negsuc, ◌-ℤ◌, map, replicate}
use Rattle.refusal.specs.Refused.{Told, values, refused, put}
use Rattle.refusal.specs.Checks.{Outcome}
use Rattle.gain_limit.specs.declared.GainLimit.{GainLimit}
use Rattle.gain_limit.specs.declared.GainLimit.TheVariants.{Unrestricted, Resonance}
use Rattle.encoder_stability.specs.declared.Stability.{Stability}
use Rattle.encoder_stability.specs.declared.WatchedGain.{WatchedGain}
use Rattle.encoder_stability.specs.Watch.{watch_of, close, observed, limit_by, watched}
use Rattle.encoder_stability.specs.Runs.{Call, observe, stage, after_calls, gains_of}

-- ---- the spectrum
-- words that fall by these gaps
abbrev pub falling : ℤ → List ℤ → List ℤ
falling v [] = v ∷ []
falling v (g ∷ gs) = v ∷ falling (v -ℤ g) gs

-- a first gap of 0, two gaps, five gaps, a last one of 0; the second word is the first
abbrev pub spectrum : ℤ → List ℤ → List ℤ → List ℤ
spectrum second lower upper = falling second (pos 0 ∷ lower ++ upper ++ pos 0 ∷ [])

abbrev pub lows : ℕ → ℕ → List ℤ
lows a b = pos a ∷ pos b ∷ []

abbrev pub highs : ℕ → ℕ → List ℤ
highs a b = pos a ∷ pos 1500 ∷ pos 1500 ∷ pos 1500 ∷ pos b ∷ []

unfoldable pub Spectra : Type 0
Spectra =
    -- each gap that is looked at is at its bound, and the two others are 0
    (close (spectrum (pos 30500) (lows 1100 1100) (highs 1500 1500)) ≡ false)
    × (close (spectrum (pos 30500) (lows 1099 1100) (highs 1500 1500)) ≡ true)
    × (close (spectrum (pos 30500) (lows 1100 1099) (highs 1500 1500)) ≡ true)
    × (close (spectrum (pos 30500) (lows 1100 1100) (highs 1499 1500)) ≡ true)
    × (close (spectrum (pos 30500) (lows 1100 1100) (highs 1500 1499)) ≡ true)
    -- the threshold goes by the second word
    × (close (spectrum (pos 30501) (lows 800 800) (highs 1500 1500)) ≡ false)
    × (close (spectrum (pos 30501) (lows 799 800) (highs 1500 1500)) ≡ true)
    × (close (spectrum (pos 32000) (lows 800 799) (highs 1500 1500)) ≡ true)
    × (close (spectrum (pos 32001) (lows 600 600) (highs 1500 1500)) ≡ false)
    × (close (spectrum (pos 32001) (lows 600 599) (highs 1500 1500)) ≡ true)

-- ---- the limit
-- an oldest gain, the next, and five of 0
abbrev pub two_gains : ℤ → ℤ → List ℤ
two_gains a b = a ∷ b ∷ replicate 5 (pos 0)

unfoldable pub Limits : Type 0
Limits =
    -- an eighth of 15566 is 1945, so that the sums are 15566 and 15565
    (limit_by (watch_of 12 (two_gains (pos 13621) (pos 0))) (pos 15566) ≡ Resonance)
    × (limit_by (watch_of 12 (two_gains (pos 13620) (pos 0))) (pos 15566) ≡ Unrestricted)
    × (limit_by (watch_of 12 (two_gains (pos 20000) (pos 0))) (pos 15565) ≡ Unrestricted)
    × (limit_by (watch_of 11 (two_gains (pos 13621) (pos 0))) (pos 15566) ≡ Unrestricted)
    × (limit_by (watch_of 255 (two_gains (pos 13621) (pos 0))) (pos 15566) ≡ Resonance)
    -- 2000 + 32767 is clipped before 17300 is taken off; the other way round nothing is
    × (limit_by (watch_of 12 (two_gains (pos 32767) (negsuc 17299))) (pos 16000) ≡ Unrestricted)
    × (limit_by (watch_of 12 (two_gains (negsuc 17299) (pos 32767))) (pos 16000) ≡ Resonance)

-- ---- the stage, where all lists are 0
abbrev pub silent : Stability → ℕ → Outcome WatchedGain Stability
silent w fraction = watched w (replicate 40 (pos 0)) (replicate 40 (pos 0)) (replicate 40 (pos 0)) (negsuc 19) fraction (pos 16000)

abbrev pub seen : Told WatchedGain → Told (ℕ × GainLimit)
seen = put (λ a. (a.gain.index, a.limit))

unfoldable pub Stages : Type 0
Stages =
    -- row 84 has a pitch gain of 15382, row 96 of 16396; the one given is 16000
    (seen (silent (watch_of 12 (replicate 7 (pos 2000))) 0).answer ≡ values (84, Resonance))
    × ((silent (watch_of 12 (replicate 7 (pos 2000))) 0).after ≡ watch_of 12 (replicate 6 (pos 2000) ++ pos 1922 ∷ []))
    × (seen (silent (watch_of 11 (replicate 7 (pos 2000))) 0).answer ≡ values (96, Unrestricted))
    × ((silent (watch_of 11 (replicate 7 (pos 2000))) 0).after ≡ watch_of 11 (replicate 6 (pos 2000) ++ pos 2049 ∷ []))
    × ((silent (watch_of 12 (replicate 7 (pos 2000))) 32768).answer ≡ refused 14 (pos 32768))
    × ((silent (watch_of 12 (replicate 7 (pos 2000))) 32768).after ≡ watch_of 12 (replicate 7 (pos 2000)))

-- ---- calls since fresh, the latest first
abbrev pub close_one : Call
close_one = observe (replicate 10 (pos 0))

abbrev pub wide_one : Call
wide_one = observe (spectrum (pos 30500) (lows 1100 1100) (highs 1500 1500))

abbrev pub silent_stage : Call
silent_stage = stage (replicate 40 (pos 0)) (replicate 40 (pos 0)) (replicate 40 (pos 0)) (negsuc 19) 0 (pos 16000)

-- its row is 95, whose pitch gain is 13600
abbrev pub quiet_stage : Call
quiet_stage = stage (replicate 40 (pos 5)) (replicate 40 (pos 2)) (replicate 40 (pos 10)) (pos 8) 0 (pos 16000)

abbrev pub counts : List (List Call) → List ℕ
counts = map (λ cs. (after_calls cs).count)

unfoldable pub Calls : Type 0
Calls =
    -- eleven, twelve and thirteen close spectra; a wide one after them, and a close one after it; nine words, which are refused
    (counts (replicate 11 close_one ∷ replicate 12 close_one ∷ replicate 13 close_one ∷ []) ≡ 11 ∷ 12 ∷ 12 ∷ [])
    × (counts ((wide_one ∷ replicate 13 close_one) ∷ (close_one ∷ wide_one ∷ replicate 13 close_one) ∷ []) ≡ 0 ∷ 1 ∷ [])
    × ((observed (after_calls (replicate 11 close_one)) (replicate 10 (pos 0))).answer ≡ values true)
    × ((observed (after_calls (replicate 10 close_one)) (replicate 10 (pos 0))).answer ≡ values false)
    × ((observed (after_calls (replicate 11 close_one)) (replicate 9 (pos 0))).answer ≡ refused 1 (pos 9))
    × (counts ((observe (replicate 9 (pos 0)) ∷ replicate 11 close_one) ∷ []) ≡ 11 ∷ [])
    -- gains enter behind zeros; the eighth drives the oldest out
    × ((after_calls (quiet_stage ∷ silent_stage ∷ close_one ∷ [])).gains_q11 ≡ replicate 5 (pos 0) ++ pos 2049 ∷ pos 1700 ∷ [])
    × ((after_calls (replicate 6 silent_stage ++ quiet_stage ∷ [])).gains_q11 ≡ pos 1700 ∷ replicate 6 (pos 2049))
    × ((after_calls (replicate 7 silent_stage ++ quiet_stage ∷ [])).gains_q11 ≡ replicate 7 (pos 2049))
    -- after twelve close spectra the sum is above 15565 from the eighth stage to the fourteenth, whose rows are 84, not at the fifteenth, again at the next
    × (gains_of (replicate 16 silent_stage ++ replicate 12 close_one) ≡ pos 1922 ∷ pos 2049 ∷ (replicate 7 (pos 1922) ++ replicate 7 (pos 2049)))
