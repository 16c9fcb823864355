-- 02, request 10: 'The index rules are shown for every upper lag from 40 to 143 together': the lag of a lag's index is that lag, and the index is as wide as it is sent.
use Rattle.std.specs.Prelude.{◌≡◌, ◌⊎◌, ℕ, ◌+◌, ◌*◌, ◌≤◌}
use Rattle.pitch.specs.declared.Fraction.TheVariants.{MinusThird, Zero}
use Rattle.pitch.specs.declared.PitchLag.{PitchLag}
use Rattle.pitch.specs.Kinds.{from_zero}
use Rattle.pitch.specs.Windows.{absolute_start, relative_start}
use Rattle.pitch.specs.Indexes.{absolute_index, relative_index, absolute_lag, relative_lag}

-- a lag counted in thirds of a sample, and 1 more
abbrev pub in_thirds : PitchLag → ℕ
in_thirds l = 3 * l.samples + from_zero l.fraction

-- the lags that may be chosen in subframes 1 and 3, in a window from `start`: from start - 1 and +1 third, by thirds up to 85 and -1 third, by whole lags to the
-- window's end
pub record AbsoluteChoice (start : ℕ) (l : PitchLag) : Type 0 where
  pub from : 3 * start ≤ in_thirds l + 1
  pub to : (in_thirds l ≤ 255) ⊎ ((85 ≤ l.samples) × (l.samples ≤ start + 6) × (l.fraction ≡ Zero))

-- and in subframes 2 and 4: from start - 1 and +1 third to start + 10 and -1 third
pub record RelativeChoice (start : ℕ) (l : PitchLag) : Type 0 where
  pub from : 3 * start ≤ in_thirds l + 1
  pub to : in_thirds l ≤ 3 * (start + 9) + 3

-- read back as it was, and sent in eight bits, in subframes 1 and 3
abbrev pub AbsoluteBack : PitchLag → Type 0
AbsoluteBack l = (absolute_lag (absolute_index l) ≡ l) × (absolute_index l ≤ 255)

-- and in five in subframes 2 and 4, where both sides have the same window
abbrev pub RelativeBack : ℕ → PitchLag → Type 0
RelativeBack start l = (relative_lag start (relative_index start l) ≡ l) × (relative_index start l ≤ 31)

-- the statement, of every centre
unfoldable pub IndexRules : Type 0
IndexRules =
    (upper : ℕ) → 40 ≤ upper → upper ≤ 143 → (centre : ℕ) (l : PitchLag) →
    (AbsoluteChoice (absolute_start upper centre) l → AbsoluteBack l)
    × (RelativeChoice (relative_start upper centre) l → RelativeBack (relative_start upper centre) l)

-- ---- not of nothing: a player's greatest lags may be chosen in its last windows, 120 in that from 114, 121 and -1 third in that from 111
unfoldable pub PlayersEnds : Type 0
PlayersEnds =
    AbsoluteChoice (absolute_start 120 120) (record { samples = 120; fraction = Zero })
    × (absolute_index (record { samples = 120; fraction = Zero }) ≡ 232)
    × RelativeChoice (relative_start 120 120) (record { samples = 121; fraction = MinusThird })
    × (relative_index (relative_start 120 120) (record { samples = 121; fraction = MinusThird }) ≡ 31)
