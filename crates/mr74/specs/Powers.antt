-- The answer of `pow2` as the struct that crosses to Rust and C: number 0 and the value, or a refusal's number and detail and 0.
use Rattle.std.specs.Prelude.{false, ℤ, pos}
use Rattle.refusal.specs.Refused.{Told, values, refused}
use Rattle.mr74.specs.Details.{sign_magnitude}
use Rattle.mr74.specs.declared.power.PowerAnswer.{PowerAnswer}

-- `pow2`'s
unfoldable pub power_answer : Told ℤ → PowerAnswer
power_answer (values v) = record { number = 0; negative = false; magnitude = 0; value = v }
power_answer (refused n d) = record { number = n; negative = (sign_magnitude d).negative; magnitude = (sign_magnitude d).magnitude; value = pos 0 }
