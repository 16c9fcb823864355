-- An answer that refuses by number 1 alone, as the struct that crosses to Rust and C.
use Rattle.refusal.specs.Refused.{Told, values, refused}
use Rattle.mr74.specs.Details.{sign_magnitude}
use Rattle.mr74.specs.declared.filtering.LengthAnswer.{LengthAnswer}

-- number 0, or a refusal's number and detail
abbrev pub length_answer : Told (Unit {0}) → LengthAnswer
length_answer (values u) = record { number = 0; magnitude = 0 }
length_answer (refused n d) = record { number = n; magnitude = (sign_magnitude d).magnitude }
