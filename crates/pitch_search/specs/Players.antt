-- 02, request 10: computed searches in subframe one, on silence, of a fresh player and of a fresh handset. 'Number 3 covers 121 and above for the player'.
use Rattle.std.specs.Prelude.{◌≡◌, replicate, ℕ, pos}
use Rattle.refusal.specs.Refused.{values, refused}
use Rattle.refusal.specs.Checks.{Outcome}
use Rattle.pitch.specs.declared.Fraction.TheVariants.{Zero}
use Rattle.pitch.specs.declared.Subframe.TheVariants.{Two}
use Rattle.pitch.specs.declared.PitchLag.{PitchLag}
use Rattle.pitch.specs.declared.UpperLag.{UpperLag}
use Rattle.pitch.specs.declared.UpperLag.TheVariants.{Player, Handset}
use Rattle.pitch_search.specs.declared.Search.{Search}
use Rattle.pitch_search.specs.declared.SearchedPitch.{SearchedPitch}
use Rattle.pitch_search.specs.Searches.{fresh_search, Pitch_fr}

-- by the two open-loop lags
abbrev pub silent : UpperLag → ℕ → ℕ → Outcome SearchedPitch Search
silent upper first second = Pitch_fr (fresh_search upper) (replicate 194 (pos 0)) (replicate 40 (pos 0)) (replicate 40 (pos 0)) first second 1

-- a whole lag found in a window from start
abbrev pub whole : UpperLag → ℕ → ℕ → ℕ → Outcome SearchedPitch Search
whole upper start samples index =
    let lag : PitchLag = record { samples = samples; fraction = Zero } in
    record {
      answer = values (record { lag = lag; index = index });
      after = record { previous = lag; next = Two; upper = upper; start = start };
    }

-- refused by number 3, the searcher as it was
abbrev pub too_high : ℕ → Outcome SearchedPitch Search
too_high samples = record { answer = refused 3 (pos samples); after = fresh_search Player }

-- 120 is taken, in a window from 114; of two lags above it the first is named; a handset takes both
unfoldable pub PlayersSearches : Type 0
PlayersSearches =
    (silent Player 120 120 ≡ whole Player 114 120 232)
    × (silent Player 121 143 ≡ too_high 121)
    × (silent Player 120 143 ≡ too_high 143)
    × (silent Handset 121 143 ≡ whole Handset 118 124 236)
