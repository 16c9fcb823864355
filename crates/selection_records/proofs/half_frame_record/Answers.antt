use Rattle.std.proofs.Common.{rules}
use borrow.Author.Tests.{eq-eqb}
use Rattle.selection_records.specs.Records.{half_frame}
use Rattle.selection_records.proofs.half_frame_record.Goals as goal

pub returns : goal.returns
unfolding half_frame
returns c ws =
    let a = rw c.words_at-samples.ensures at c.push-step.ensures.0 in
    let b = rw c.words_at-samples.ensures at c.push-step.ensures.1 in
    rw (eq-eqb _ _ c.if-body-ne160.false, ← a, ← b) (search rules)
