-- 02, request 08: which start an accepted search keeps, and how far from it the answered lag lies: of every searcher and every search. Both ends are reached.
use Rattle.std.specs.Prelude.{◌≡◌, false, List, ◌∷◌, ◌++◌, replicate, ℕ, ◌+◌, ◌-◌, ◌≤◌, ℤ, pos}
use Rattle.refusal.specs.Refused.{values, accepts}
use Rattle.refusal.specs.Checks.{Outcome}
use Rattle.pitch.specs.declared.Fraction.TheVariants.{MinusThird, Zero, PlusThird}
use Rattle.pitch.specs.declared.Subframe.TheVariants.{Two, Three}
use Rattle.pitch.specs.declared.PitchLag.{PitchLag}
use Rattle.pitch.specs.declared.UpperLag.{UpperLag}
use Rattle.pitch.specs.declared.UpperLag.TheVariants.{Player, Handset}
use Rattle.pitch.specs.Kinds.{upper_samples}
use Rattle.pitch_window.specs.Windows.{start_of}
use Rattle.pitch_search.specs.declared.Search.{Search}
use Rattle.pitch_search.specs.declared.SearchedPitch.{SearchedPitch}
use Rattle.pitch_search.specs.Searches.{Pitch_fr}

-- an accepted search of s: its lag, and the searcher after it
pub record KeepsStart (s : Search) (first second : ℕ) (lag : PitchLag) (after : Search) : Type 0 where
  -- 'the start that document 01's window rule gives'
  pub by_rule : after.start ≡ start_of (upper_samples s.upper) s.next s.previous.samples first second
  -- 'the whole lag lies between start − 1 and start + 10'
  pub from : after.start - 1 ≤ lag.samples
  pub to : lag.samples ≤ after.start + 10

-- and one that is refused leaves the whole record as it was
unfoldable pub EveryStart : Type 0
EveryStart =
    (s : Search) (exc target hs : List ℤ) (first second n : ℕ) →
    let o = Pitch_fr s exc target hs first second n in
    ((p : SearchedPitch) → o.answer ≡ values p → KeepsStart s first second p.lag o.after) × (accepts o.answer ≡ false → o.after ≡ s)

-- ---- both ends are reached, by computing: in subframe two, after whole lags whose windows start at 95, and at a player's last start
abbrev pub after_lag : UpperLag → ℕ → Search
after_lag upper samples = record { previous = record { samples = samples; fraction = Zero }; next = Two; upper = upper; start = 7 }

-- target and impulse response: one word, and zeros after it
abbrev pub one_word : List ℤ
one_word = pos 4096 ∷ replicate 39 (pos 0)

-- the excitation's words at the lags 95 and 94, the second one louder
abbrev pub at_94 : List ℤ
at_94 = replicate 59 (pos 0) ++ (pos 500 ∷ pos 1000 ∷ replicate 133 (pos 0))

-- at a lag and at the one below it, the first one louder, and one more at 31 below
abbrev pub loud_at : ℕ → List ℤ
loud_at lag = replicate (154 - lag) (pos 0) ++ (pos 1000 ∷ pos 300 ∷ (replicate 29 (pos 0) ++ (pos 1000 ∷ replicate (8 + lag) (pos 0))))

-- what a search with such words answers, and the searcher after it
abbrev pub found_in : Search → List ℤ → Outcome SearchedPitch Search
found_in s exc = Pitch_fr s exc one_word one_word 80 80 2

-- an accepted search in a window from start
abbrev pub found : UpperLag → ℕ → PitchLag → ℕ → Outcome SearchedPitch Search
found upper start lag index =
    record {
      answer = values (record { lag = lag; index = index });
      after = record { previous = lag; next = Three; upper = upper; start = start };
    }

unfoldable pub Ends : Type 0
Ends =
    (found_in (after_lag Handset 100) at_94 ≡ found Handset 95 (record { samples = 94; fraction = PlusThird }) 0)
    × (found_in (after_lag Handset 100) (loud_at 105) ≡ found Handset 95 (record { samples = 105; fraction = MinusThird }) 31)
    × (found_in (after_lag Player 120) (loud_at 121) ≡ found Player 111 (record { samples = 121; fraction = MinusThird }) 31)
