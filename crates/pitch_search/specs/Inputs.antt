-- What one pitch search is handed, as one value, and the search of it: for statements over lists of searches.
use Rattle.std.specs.Prelude.{List, ℕ, ℤ, pos, replicate}
use Rattle.refusal.specs.Checks.{Outcome}
use Rattle.pitch_search.specs.declared.Search.{Search}
use Rattle.pitch_search.specs.declared.SearchedPitch.{SearchedPitch}
use Rattle.pitch_search.specs.Searches.{Pitch_fr}

pub record Input : Type 0 where
  pub subframe : ℕ
  pub excitation : List ℤ
  pub target : List ℤ
  pub impulse : List ℤ
  pub first : ℕ
  pub second : ℕ

abbrev pub searched : Search → Input → Outcome SearchedPitch Search
searched s x = Pitch_fr s x.excitation x.target x.impulse x.first x.second x.subframe

-- for computed examples: a search of subframe n where all samples are 0 and both open-loop lags are the same
abbrev pub silent_at : ℕ → ℕ → Input
silent_at lag n =
    record {
      subframe = n;
      excitation = replicate 194 (pos 0);
      target = replicate 40 (pos 0);
      impulse = replicate 40 (pos 0);
      first = lag;
      second = lag;
    }
