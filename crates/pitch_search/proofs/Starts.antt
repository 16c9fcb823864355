-- The statement on the kept start, and the searches at its ends and those of a player by computing.
use mathlib.Core.Path.{◌≡◌, refl, sym, ap, ◌∙◌}
use mathlib.Core.List.{List}
use Prim.Native.Nat.{ℕ}
use native.Mathlib.Omega.{arith}
use lib.IntN.{ℤ}
use Rattle.refusal.specs.Refused.{values, accepts}
use Rattle.refusal.specs.Checks.{Outcome}
use Rattle.refusal.proofs.Checkings.{value_or}
use Rattle.pitch.specs.Kinds.{upper_samples}
use Rattle.pitch.proofs.Uppers.{upper_from_40, upper_to_143}
use Rattle.pitch_window.specs.Windows.{centre_of}
use Rattle.pitch_window.proofs.Sendings.{near_start}
use Rattle.pitch_search.specs.declared.Search.{Search}
use Rattle.pitch_search.specs.declared.SearchedPitch.{SearchedPitch}
use Rattle.pitch_search.specs.Searches.{accepted, Pitch_fr}
use Rattle.pitch_search.specs.Statement.{KeepsStart, EveryStart, Ends}
use Rattle.pitch_search.specs.Players.{PlayersSearches}
use Rattle.pitch_search.specs.Opens.{search_opens}
use Rattle.pitch_search.proofs.Outcomes.{through, unchanged}

module _ (s : Search) (exc target hs : List ℤ) (first second n : ℕ) (p : SearchedPitch) (e : (Pitch_fr s exc target hs first second n).answer ≡ values p) where
  outcome : Pitch_fr s exc target hs first second n ≡ accepted s exc target hs first second
  outcome = through s exc target hs first second n (ap accepts e)

  found : p ≡ value_or p (accepted s exc target hs first second).answer
  found = ap (value_or p) (sym e ∙ ap (λ (o : Outcome SearchedPitch Search). o.answer) outcome)

  keeps_start : KeepsStart s first second p.lag (Pitch_fr s exc target hs first second n).after
  keeps_start =
      let u = s.upper in
      let near = near_start (upper_samples u) (upper_from_40 u) (upper_to_143 u) (centre_of s.next s.previous.samples first second) exc target hs s.next in
      rw (outcome, found) (record { by_rule = refl; from = omega (arith, near.0); to = omega (arith, near.1) })

pub every_start : EveryStart
unfolding EveryStart
every_start s exc target hs first second n = (keeps_start s exc target hs first second n, unchanged s exc target hs first second n)

pub ends : Ends
unfolding Ends search_opens
ends = (refl, refl, refl)

pub players_searches : PlayersSearches
unfolding PlayersSearches search_opens
players_searches = (refl, refl, refl, refl)
