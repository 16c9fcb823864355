-- 01, 'Bench points': each point marked M is a row.
use Rattle.std.specs.Prelude.{◌≡◌, List, [], ◌∷◌, ℕ, ℤ, pos, negsuc, replicate}
use Rattle.refusal.specs.Refused.{Told, values}
use Rattle.pitch.specs.declared.Fraction.TheVariants.{Zero}
use Rattle.points.specs.Answer.{Question, powerOfTwo, absoluteReading, relativeReading, absoluteIndex, openLoop, pitchAfter, pulseWords, innovationAt, pitchGain, gainRow, answer}

-- a question and what 01 says of it
pub record Point : Type 0 where
  pub asked : Question
  pub told : Told (List ℤ)

-- 'gain' with all samples 0 and the predicted pair 0, 0
abbrev pub silent_gain : ℕ → Question
silent_gain limit = gainRow (replicate 40 (pos 0)) (replicate 40 (pos 0)) (replicate 40 (pos 0)) (pos 0) 0 limit

-- '2 pitch' with all samples 0 and the open-loop lags 80, 80, after such searches of other subframes
abbrev pub silent_pitch : List ℕ → ℕ → Question
silent_pitch ns n = pitchAfter ns (replicate 194 (pos 0)) (replicate 40 (pos 0)) (replicate 40 (pos 0)) 80 80 n

unfoldable pub points : List Point
points =
    record { asked = powerOfTwo 14 0; told = values (pos 16384 ∷ []) }
    -- 'absolute 85 and 0 gives 197. Index 0 reads 19 and +1; 196 reads 85 and −1; 255 reads 143 and 0'
    ∷ record { asked = absoluteIndex (record { samples = 85; fraction = Zero }); told = values (pos 197 ∷ []) }
    ∷ record { asked = absoluteReading 0; told = values (pos 19 ∷ pos 1 ∷ []) }
    ∷ record { asked = absoluteReading 196; told = values (pos 85 ∷ negsuc 0 ∷ []) }
    ∷ record { asked = absoluteReading 255; told = values (pos 143 ∷ pos 0 ∷ []) }
    -- 'previous 144, index 31: 144 and −1. Previous 20, index 0: 19 and +1'
    ∷ record { asked = relativeReading 144 31; told = values (pos 144 ∷ negsuc 0 ∷ []) }
    ∷ record { asked = relativeReading 20 0; told = values (pos 19 ∷ pos 1 ∷ []) }
    -- lines 2, 3, 4 and 6 of the listing; 02, request 01: 'Line 4 of document 01's listing then ends in 93 and line 3 still in 97'
    ∷ record { asked = openLoop (replicate 80 (pos 0)); told = values (pos 80 ∷ []) }
    ∷ record { asked = silent_pitch [] 1; told = values (pos 189 ∷ pos 82 ∷ pos 1 ∷ pos 97 ∷ []) }
    ∷ record { asked = silent_pitch (1 ∷ []) 2; told = values (pos 27 ∷ pos 85 ∷ pos 1 ∷ pos 93 ∷ []) }
    ∷ record { asked = pulseWords (replicate 40 (pos 0)) (replicate 40 (pos 0)) 40 (pos 0); told = values (pos 6 ∷ pos 15 ∷ []) }
    -- 'line 6 with lag 20, gain 16384: innovation 8190 at 21, 22, 23'
    ∷ record { asked = innovationAt (21 ∷ 22 ∷ 23 ∷ []) (replicate 40 (pos 0)) (replicate 40 (pos 0)) 20 (pos 16384); told = values (pos 8190 ∷ pos 8190 ∷ pos 8190 ∷ []) }
    -- line 7, and 'with the resonance limit gives row 93'
    ∷ record { asked = silent_gain 0; told = values (pos 103 ∷ pos 16222 ∷ pos 5448 ∷ []) }
    ∷ record { asked = silent_gain 1; told = values (pos 93 ∷ pos 15387 ∷ pos 9741 ∷ []) }
    -- 'pitch gain of two zero lists 16384'
    ∷ record { asked = pitchGain (replicate 40 (pos 0)) (replicate 40 (pos 0)); told = values (pos 16384 ∷ []) }
    ∷ []

-- the definition answers so
abbrev pub Holds : Point → Type 0
Holds p = answer p.asked ≡ p.told

abbrev pub Each : List Point → Type 0
Each [] = Unit {0}
Each (p ∷ ps) = Holds p × Each ps

-- the statement: every row holds
unfoldable pub Points : Type 0
unfolding points
Points = Each points
