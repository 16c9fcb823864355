-- 01, 'Feed and program': where the printing of lines ends.
use Rattle.std.specs.Prelude.{◌≡◌, Bool, true, false, Option, Result, Ok, Err}
use Rattle.refusal.specs.declared.Refusal.{Refusal}
use Rattle.refusal.specs.Refused.{number}
use Rattle.feed.specs.Records.{ends_feed}
use Rattle.selection_answers.specs.declared.Answer.{Answer}
use Rattle.feed_lines.specs.declared.Ended.{Ended}
use Rattle.feed_lines.specs.declared.Ended.TheVariants.{Refused, NotRead, NotWritten}

-- 01: 'After refusals 9 and 10 it stops', and after no other
abbrev pub Stops : Ended → Type 0
Stops (Refused r place) = ends_feed (number r) ≡ true
Stops NotRead = Unit {0}
Stops NotWritten = Unit {0}

-- and so behind an answer
abbrev pub stops : Result (Option Answer) Refusal → Bool
stops (Ok a) = false
stops (Err r) = ends_feed (number r)
