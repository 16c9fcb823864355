-- A refusal leaves detector, searcher, reader and the lent words as they were, and a reset makes all three fresh, with the same upper lags: of every feed and at every place.
use mathlib.Core.Path.{◌≡◌, refl, sym}
use mathlib.Core.Bool.{false}
use mathlib.Core.List.{List}
use Prim.Native.Nat.{ℕ, zero, suc}
use lib.IntN.{ℤ}
use Rattle.fixed.proofs.Clips.{contradiction}
use Rattle.refusal.specs.Refused.{Told, values, refused, accepts}
use Rattle.feed.specs.Records.{Standing, nothing, whole, header, body}
use Rattle.selection_records.proofs.Keepings.{half_frame_keeps, pitch_keeps, filtering_keeps, lag_reading_keeps}
use Rattle.selection.specs.Steps.{Selection, Step, reset_selection, of_kind, of_standing, step_lent}

module _ (s : Selection) (ws : List ℤ) where
  -- 01, 'What is turned down': 'no list is written'; searcher and reader stay too
  abbrev pub Keeps : Step → Type 0
  Keeps t = accepts t.answer ≡ false → (t.after ≡ s) × (t.words ≡ ws)

  kind_keeps : (kind : ℕ) (bs : List ℕ) → Keeps (of_kind s ws kind bs)
  unfolding of_kind
  kind_keeps zero bs e = contradiction (sym e)
  kind_keeps (suc zero) bs e = (rw (half_frame_keeps s.detector bs e), refl)
  kind_keeps (suc (suc zero)) bs e = (rw (pitch_keeps s.searcher bs e), refl)
  kind_keeps (suc (suc (suc zero))) bs e = (refl, refl)
  kind_keeps (suc (suc (suc (suc zero)))) bs e = (refl, refl)
  kind_keeps (suc (suc (suc (suc (suc zero))))) bs e = (refl, filtering_keeps ws bs e)
  kind_keeps (suc (suc (suc (suc (suc (suc k)))))) bs e = (rw (lag_reading_keeps s.reader bs e), refl)

  standing_keeps : (bs : List ℕ) (h : Told Standing) → Keeps (of_standing s ws bs h)
  standing_keeps bs (values nothing) e = (refl, refl)
  standing_keeps bs (values (whole kind next)) e = kind_keeps kind bs e
  standing_keeps bs (refused n d) e = (refl, refl)

  -- of every feed and place
  pub refused_keeps : (feed : List ℕ) (at : ℕ) → Keeps (step_lent s ws feed at)
  unfolding step_lent
  refused_keeps feed at = standing_keeps (body feed at) (header feed at)

  -- a record of kind 0 makes all three fresh
  pub reset_freshens : (feed : List ℕ) (at next : ℕ) → header feed at ≡ values (whole 0 next) → (step_lent s ws feed at).after ≡ reset_selection s
  unfolding step_lent of_kind
  reset_freshens feed at next e = rw e
