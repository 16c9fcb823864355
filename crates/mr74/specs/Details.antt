-- A refusal's detail as C reads it.
use Rattle.std.specs.Prelude.{true, false, suc, ℤ, pos, negsuc}
use Rattle.mr74.specs.declared.details.Detail.{Detail}

-- the detail as the struct that holds it
abbrev pub sign_magnitude : ℤ → Detail
sign_magnitude (pos n) = record { negative = false; magnitude = n }
sign_magnitude (negsuc n) = record { negative = true; magnitude = suc n }
