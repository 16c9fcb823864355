use borrow.Author.Rules.{rules}
use Rattle.std.proofs.Common.{◌≡◌, ◌+◌, ◌*◌, ◌≤◌, ◌∙◌, length, arith}
use borrow.Author.Tests.{le-leb, lt-leb}
use Rattle.feed.specs.Words.{words_into}
use Rattle.feed.proofs.read_words.Goals as goal

pub returns-then-body-from : goal.returns-then-body-from
unfolding words_into
returns-then-body-from c =
    let a = c.args in
    rw (lt-leb (a.from + 2 * length a.list.now) (length a.body.now) (omega arith))

pub returns-then-body-from-2 : goal.returns-then-body-from-2
unfolding words_into
returns-then-body-from-2 c =
    let a = c.args in
    rw (lt-leb (a.from + 2 * length a.list.now) (length a.body.now) (omega arith))

pub returns : goal.returns
unfolding words_into
returns c =
    let a = c.args in
    let n = length a.list.now in
    let h : a.from + 2 * n ≤ length a.body.now = omega arith in
    let e : length c.copy_low_first.new.list ≡ n = search rules in
    rw (le-leb (a.from + 2 * n) (length a.body.now) h) (rw e at c.swap_all.ensures ∙ c.copy_low_first.ensures)
