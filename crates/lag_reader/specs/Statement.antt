-- 02, request 10, of a lag reader: in subframes one and three every index is read, whatever the reader's upper lag.
use Rattle.std.specs.Prelude.{◌≡◌, true, ℕ}
use Rattle.refusal.specs.Refused.{values}
use Rattle.refusal.specs.Checks.{Outcome}
use Rattle.pitch.specs.declared.Fraction.TheVariants.{MinusThird, Zero}
use Rattle.pitch.specs.declared.Subframe.TheVariants.{Two, Three}
use Rattle.pitch.specs.declared.PitchLag.{PitchLag}
use Rattle.pitch.specs.declared.UpperLag.TheVariants.{Player}
use Rattle.pitch.specs.Kinds.{subframe_number, absolute}
use Rattle.pitch.specs.Indexes.{absolute_lag}
use Rattle.lag_reader.specs.declared.Reader.{Reader}
use Rattle.lag_reader.specs.Readers.{fresh_reader, read}

-- the rule of an absolute index has no upper lag
unfoldable pub EveryAbsoluteIndex : Type 0
EveryAbsoluteIndex =
    (r : Reader) (index : ℕ) → absolute r.next ≡ true → (read r (subframe_number r.next) index).answer ≡ values (absolute_lag index)

-- ---- by computing: a fresh player's reader reads 255 as 143, and the index 31 after it in a window that is held to 111
abbrev pub after_143 : Reader
after_143 = record { previous = record { samples = 143; fraction = Zero }; next = Two; upper = Player; start = 0 }

unfoldable pub AboveThePlayersLag : Type 0
AboveThePlayersLag =
    (read (fresh_reader Player) 1 255 ≡ record { answer = values (record { samples = 143; fraction = Zero }); after = after_143 })
    × (read after_143 2 31 ≡ record {
      answer = values (record { samples = 121; fraction = MinusThird });
      after = record { previous = record { samples = 121; fraction = MinusThird }; next = Three; upper = Player; start = 111 };
    })
