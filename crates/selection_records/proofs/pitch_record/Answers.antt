use Rattle.std.proofs.Common.{rules}
use borrow.Author.Tests.{eq-eqb}
use Rattle.selection_records.specs.Records.{pitch}
use Rattle.selection_records.proofs.pitch_record.Goals as goal

pub returns : goal.returns
unfolding pitch
returns c ws =
    let s = rw (c.words_at-excitation.ensures, c.words_at-target.ensures, c.words_at-impulse.ensures) at c.search-step.ensures in
    rw (eq-eqb _ _ c.if-body-ne551.false, ← s) (search rules)
