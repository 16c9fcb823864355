-- 02, request 07: a preview of a search. 'Its answer, refusals too, equals that of the search done on a copy, and the searcher shown to it is unchanged.'
use Rattle.std.specs.Prelude.{◌≡◌, List, replicate, ℕ, ℤ, pos}
use Rattle.refusal.specs.Refused.{Told, values, refused}
use Rattle.refusal.specs.Checks.{Outcome}
use Rattle.pitch.specs.declared.Fraction.TheVariants.{PlusThird}
use Rattle.pitch.specs.declared.UpperLag.{UpperLag}
use Rattle.pitch.specs.declared.UpperLag.TheVariants.{Player, Handset}
use Rattle.pitch_search.specs.declared.Search.{Search}
use Rattle.pitch_search.specs.declared.SearchedPitch.{SearchedPitch}
use Rattle.pitch_search.specs.Searches.{fresh_search, Pitch_fr}

-- what is done on a copy of a state: its answer, and the state as it was
abbrev pub on_a_copy : {A S : Type 0} → S → Outcome A S → Outcome A S
on_a_copy s o = record { answer = o.answer; after = s }

-- a preview is the search, on a copy
unfoldable pub preview_of : Search → List ℤ → List ℤ → List ℤ → ℕ → ℕ → ℕ → Outcome SearchedPitch Search
preview_of s exc target hs first second n = on_a_copy s (Pitch_fr s exc target hs first second n)

-- of every searcher and all inputs: the searcher is as it was, and a search with the same inputs afterwards answers what the preview answered
unfoldable pub SearchAfterPreview : Type 0
SearchAfterPreview =
    (s : Search) (exc target hs : List ℤ) (first second n : ℕ) →
    let p = preview_of s exc target hs first second n in
    (p.after ≡ s) × ((Pitch_fr p.after exc target hs first second n).answer ≡ p.answer)

-- ---- by computing, on silence and by both open-loop lags alike: previews of subframe n shown a fresh searcher, with so many words of target
abbrev pub shown : UpperLag → ℕ → ℕ → ℕ → Outcome SearchedPitch Search
shown upper length lag n =
    preview_of (fresh_search upper) (replicate 194 (pos 0)) (replicate length (pos 0)) (replicate 40 (pos 0)) lag lag n

-- which it hands back
abbrev pub as_it_was : UpperLag → Told SearchedPitch → Outcome SearchedPitch Search
as_it_was upper a = record { answer = a; after = fresh_search upper }

-- the index that would be sent; each refusal; and of two faults the first in a search's order
unfoldable pub PreviewsShown : Type 0
PreviewsShown =
    (shown Handset 40 80 1 ≡ as_it_was Handset (values (record { lag = record { samples = 82; fraction = PlusThird }; index = 189 })))
    × (shown Handset 39 80 5 ≡ as_it_was Handset (refused 1 (pos 39)))
    × (shown Handset 40 144 5 ≡ as_it_was Handset (refused 2 (pos 5)))
    × (shown Handset 40 144 2 ≡ as_it_was Handset (refused 3 (pos 144)))
    × (shown Handset 40 80 2 ≡ as_it_was Handset (refused 4 (pos 1)))
    × (shown Player 40 121 1 ≡ as_it_was Player (refused 3 (pos 121)))
