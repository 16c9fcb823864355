use Rattle.std.proofs.Common.{sym, ap, ◌∙◌, arith}
use Rattle.feed.specs.Records.{told_header}
use Rattle.feed.proofs.Standings.{whole_is}
use Rattle.mr74.proofs.records.mr74_record.Goals as goal

pub overflow_add-from : goal.overflow_add-from
overflow_add-from c =
    let h = c.in-Ok-Some in
    let w = whole_is c.args.feed.now c.args.at _ _ (sym c.header_at.ensures ∙ ap told_header (rw h.field-0-is at h.is)) in
    omega arith

pub overflow_sub-result : goal.overflow_sub-result
overflow_sub-result c =
    let h = c.in-Ok-Some in
    let w = whole_is c.args.feed.now c.args.at _ _ (sym c.header_at.ensures ∙ ap told_header (rw h.field-0-is at h.is)) in
    omega arith
