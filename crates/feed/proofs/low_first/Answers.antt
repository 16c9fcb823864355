use Rattle.std.proofs.Common.{◌≡◌, ap, ◌∙◌}
use mir.Syntax.{w16}
use mir.Val.{to_z, of_z}
use borrow.Author.Rules.{rules}
use Rattle.feed.specs.Words.{swapped}
use Rattle.feed.proofs.Wordings.{swapped_word}
use Rattle.feed.proofs.low_first.Goals as goal

pub returns : goal.returns
returns c =
    let f = c.ranges in
    let v : to_z w16 (of_z w16 c.word.result) ≡ c.word.result = search rules in
    ap swapped (v ∙ c.word.ensures) ∙ swapped_word c.args.first c.args.second f.first.fits f.second.fits
