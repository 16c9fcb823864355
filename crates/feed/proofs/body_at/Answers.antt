use Rattle.std.proofs.Common.{Option, Result, Some, Ok, ℕ, List, ◌≡◌, ◌+◌, ◌-◌, sym, ap, ◌∙◌, arith}
use Rattle.refusal.specs.declared.Refusal.{Refusal}
use Rattle.refusal.specs.Refused.{values}
use Rattle.feed.specs.declared.Record.{Record}
use Rattle.feed.specs.Records.{kind_number, body_length, told_header, whole, header, body}
use Rattle.feed.proofs.Standings.{Whole, whole_is}
use Rattle.feed.proofs.body_at.Goals as goal

-- a whole record stands there
module _ (feed : List ℕ) (at : ℕ) (r : Result (Option Record) Refusal) (e : told_header r ≡ header feed at) (o : Option Record) (is : r ≡ Ok o) (w : Record) (f : o ≡ Some w) where
  stands : header feed at ≡ values (whole (kind_number w.kind) w.next)
  stands = sym e ∙ ap told_header (rw f at is)

  found : Whole feed at (kind_number w.kind) w.next
  found = whole_is _ _ _ _ stands

pub overflow_add-result : goal.overflow_add-result
overflow_add-result c = let h = c.in-Ok-Some in let w = found _ _ _ c.header_at.ensures _ h.is _ h.field-0-is in omega arith

pub slice_bounds-result-count : goal.slice_bounds-result-count
slice_bounds-result-count c = let h = c.in-Ok-Some in let w = found _ _ _ c.header_at.ensures _ h.is _ h.field-0-is in omega arith

pub slice_bounds-result-start : goal.slice_bounds-result-start
slice_bounds-result-start c = let h = c.in-Ok-Some in let w = found _ _ _ c.header_at.ensures _ h.is _ h.field-0-is in omega arith

pub slice_bounds-result-end : goal.slice_bounds-result-end
slice_bounds-result-end c = let h = c.in-Ok-Some in let w = found _ _ _ c.header_at.ensures _ h.is _ h.field-0-is in omega arith

pub returns-in-Ok-Some : goal.returns-in-Ok-Some
unfolding body
returns-in-Ok-Some c =
    let h = c.in-Ok-Some in
    let w = found _ _ _ c.header_at.ensures _ h.is _ h.field-0-is in
    let e : h.record.next - (c.args.at + 1) ≡ body_length (kind_number h.record.kind) = omega arith in
    rw (e, stands _ _ _ c.header_at.ensures _ h.is _ h.field-0-is)

pub returns-in-Ok-None : goal.returns-in-Ok-None
unfolding body
returns-in-Ok-None c = rw (← c.header_at.ensures, c.in-Ok-None.is, c.in-Ok-None.field-0-is)

pub returns-in-Err : goal.returns-in-Err
unfolding body
returns-in-Err c = rw (← c.header_at.ensures, c.in-Err.is)
