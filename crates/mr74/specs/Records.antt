-- What stands at a place of a feed, as the struct that crosses to Rust and C.
use Rattle.std.specs.Prelude.{ℕ, ◌+◌, ◌-◌}
use Rattle.refusal.specs.Refused.{Told, values, refused}
use Rattle.feed.specs.Records.{Standing, nothing, whole}
use Rattle.mr74.specs.Details.{sign_magnitude}
use Rattle.mr74.specs.declared.records.RecordAnswer.{RecordAnswer}

-- number 0, the kind, or 7 where the feed ends, and its body, or a refusal's number and detail and zeros
abbrev pub record_answer : ℕ → Told Standing → RecordAnswer
record_answer at (values nothing) = record { number = 0; magnitude = 0; kind = 7; from = 0; length = 0 }
record_answer at (values (whole k next)) = record { number = 0; magnitude = 0; kind = k; from = at + 1; length = next - (at + 1) }
record_answer at (refused n d) = record { number = n; magnitude = (sign_magnitude d).magnitude; kind = 0; from = 0; length = 0 }
