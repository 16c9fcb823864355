-- The answers of the pulse stage as the structs that cross to Rust and C.
use Rattle.refusal.specs.Refused.{Told, values, refused}
use Rattle.codebook.specs.declared.Places.{Places}
use Rattle.codebook_code.specs.declared.PulseWords.{PulseWords}
use Rattle.mr74.specs.Details.{sign_magnitude}
use Rattle.mr74.specs.declared.pulses.PulsesAnswer.{PulsesAnswer}
use Rattle.mr74.specs.declared.pulses.PlacesAnswer.{PlacesAnswer}

-- number 0 and the two words, or a refusal's number and detail and zeros
abbrev pub pulses_answer : Told PulseWords → PulsesAnswer
pulses_answer (values w) = record { number = 0; magnitude = 0; positions = w.positions; signs = w.signs }
pulses_answer (refused n d) = record { number = n; magnitude = (sign_magnitude d).magnitude; positions = 0; signs = 0 }

-- and the four places
abbrev pub places_answer : Told Places → PlacesAnswer
places_answer (values p) = record { number = 0; magnitude = 0; first = p.first; second = p.second; third = p.third; last = p.last }
places_answer (refused n d) = record { number = n; magnitude = (sign_magnitude d).magnitude; first = 0; second = 0; third = 0; last = 0 }
