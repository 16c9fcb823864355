use borrow.Author.Tests.{eq-eqb, ne_eqb}
use Rattle.fixed.specs.Lists.{copied}
use Rattle.sums.proofs.copy.Goals as goal

pub returns-then-words-list : goal.returns-then-words-list
unfolding copied
returns-then-words-list c = let a = eq-eqb _ _ c.if-words-list.true in rw a c.copy_from_slice.ensures.after

pub returns-else-words-list : goal.returns-else-words-list
unfolding copied
returns-else-words-list c = let a = ne_eqb _ _ c.if-words-list.false in rw a
