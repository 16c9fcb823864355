use Rattle.std.proofs.Common.{sym, ap, ◌∙◌, length}
use Rattle.feed.specs.Records.{told_header}
use Rattle.feed.proofs.Standings.{body_has}
use Rattle.mr74.proofs.steps.known_at.Goals as goal

pub known_in-requires : goal.known_in-requires
known_in-requires c =
    let h = c.in-Ok-Some in
    ap length c.body_at.ensures ∙ body_has c.args.feed.now c.args.at _ _ (sym c.header_at.ensures ∙ ap told_header (rw h.field-0-is at h.is))
