use Rattle.std.proofs.Common.{◌∙◌}
use Rattle.selection_records.proofs.Readings.{filtering_read}
use Rattle.selection_records.proofs.filtering_record.Goals as goal

pub returns : goal.returns
returns c =
    c.prepared.ensures
    ∙ filtering_read c.args.body.now _ _ _ _ _ _ c.if-body-ne184.false c.words_at-speech.ensures c.words_at-coefficients.ensures c.words_at-quantized.ensures c.words_at-errors.ensures c.words_at-weighting.ensures
