-- What a reading answers behind its checks, every absolute index, and the readings of a player by computing.
use mathlib.Core.Path.{◌≡◌, refl, ap, ◌∙◌}
use mathlib.Core.Bool.{true, ◌||◌}
use Prim.Native.Nat.{ℕ}
use lib.Dec.{leb}
use borrow.Author.Tests.{eq-eqb}
use Rattle.refusal.specs.Refused.{values}
use Rattle.refusal.specs.Checks.{Outcome, within}
use Rattle.refusal.proofs.Checkings.{passed}
use Rattle.pitch.specs.declared.Subframe.{Subframe}
use Rattle.pitch.specs.declared.Subframe.TheVariants.{One, Two, Three, Four}
use Rattle.pitch.specs.declared.PitchLag.{PitchLag}
use Rattle.pitch.specs.Kinds.{subframe_number, absolute}
use Rattle.pitch.specs.Indexes.{absolute_lag}
use Rattle.lag_reader.specs.declared.Reader.{Reader}
use Rattle.lag_reader.specs.Readers.{read_in, reading_checks, read}
use Rattle.lag_reader.specs.Statement.{EveryAbsoluteIndex, AboveThePlayersLag}

numbered : (s : Subframe) → within 1 4 (subframe_number s) ≡ true
numbered One = refl
numbered Two = refl
numbered Three = refl
numbered Four = refl

-- a reading of the expected subframe, with an index that number 5 lets through
pub let_through : (r : Reader) (n i : ℕ) → n ≡ subframe_number r.next → (absolute r.next || leb i 31) ≡ true → read r n i ≡ read_in r.next r i
unfolding read
let_through r n i e f =
    passed r (read_in r.next r i) (reading_checks r n i) (rw e (numbered r.next), (eq-eqb n (subframe_number r.next) e, (f, tt)))

pub every_absolute_index : EveryAbsoluteIndex
unfolding EveryAbsoluteIndex
every_absolute_index r i t =
    ap (λ (o : Outcome PitchLag Reader). o.answer) (let_through r (subframe_number r.next) i refl (rw t refl)) ∙ rw t refl

pub above_the_players_lag : AboveThePlayersLag
unfolding AboveThePlayersLag read
above_the_players_lag = (refl, refl)
