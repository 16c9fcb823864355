-- What the answer of a search tells of its subframe and of the searcher after it.
use mathlib.Core.Path.{◌≡◌, refl}
use mathlib.Core.Bool.{true, false}
use mathlib.Core.List.{List}
use Prim.Native.Nat.{ℕ}
use lib.IntN.{ℤ}
use borrow.Author.Tests.{eqb-true}
use Rattle.refusal.specs.Refused.{accepts}
use Rattle.refusal.specs.Checks.{Check, Outcome}
use Rattle.refusal.proofs.Checkings.{passed, passes, kept}
use Rattle.pitch.specs.Kinds.{subframe_number}
use Rattle.pitch_search.specs.declared.Search.{Search}
use Rattle.pitch_search.specs.declared.SearchedPitch.{SearchedPitch}
use Rattle.pitch_search.specs.Searches.{accepted, search_checks, Pitch_fr}

module _ (s : Search) (exc target hs : List ℤ) (first second n : ℕ) where
  abbrev searched : Outcome SearchedPitch Search
  searched = Pitch_fr s exc target hs first second n

  abbrev checked : List Check
  checked = search_checks s exc target hs first second n

  abbrev let_through : Outcome SearchedPitch Search
  let_through = accepted s exc target hs first second

  pub is_expected : accepts searched.answer ≡ true → n ≡ subframe_number s.next
  unfolding Pitch_fr
  is_expected e = eqb-true n (subframe_number s.next) (passes s let_through checked e).1.1.1.1.1.1.0

  pub through : accepts searched.answer ≡ true → searched ≡ let_through
  unfolding Pitch_fr
  through e = passed s let_through checked (passes s let_through checked e)

  pub unchanged : accepts searched.answer ≡ false → searched.after ≡ s
  unfolding Pitch_fr
  unchanged e = kept s let_through checked refl e
