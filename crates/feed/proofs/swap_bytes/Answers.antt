use Rattle.std.proofs.Common.{◌≡◌, ◌∙◌}
use mir.Syntax.{w16}
use mir.Val.{to_z, of_z}
use borrow.Author.Rules.{rules}
use Rattle.fixed.specs.Operators.{remainder}
use Rattle.feed.specs.Words.{swapped}
use Rattle.feed.proofs.swap_bytes.Goals as goal

pub returns : goal.returns
unfolding swapped
returns c =
    let v : to_z w16 (of_z w16 c.word.result) ≡ c.word.result = search rules in
    let b : c.cast_unsigned-bits.result ≡ remainder c.args.v 65536 = search rules in
    v ∙ rw b at c.word.ensures
