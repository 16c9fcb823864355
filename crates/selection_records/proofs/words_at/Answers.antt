use Rattle.std.proofs.Common.{arith}
use lib.IntN.{pos}
use lib.ListN.{replicate, length-replicate}
use Rattle.feed.proofs.Wordings.{words_read}
use Rattle.selection_records.proofs.words_at.Goals as goal

pub returns : goal.returns
returns g c =
    let n = g.row.N in
    rw (c.read_words.ensures, words_read c.args.body.now c.args.from n (replicate n (pos 0)) (length-replicate n (pos 0)) (omega arith))
