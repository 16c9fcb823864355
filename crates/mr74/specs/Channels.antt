-- The answers of the dispatcher as the structs that cross to Rust and C.
use Rattle.std.specs.Prelude.{ℕ, ℤ}
use Rattle.refusal.specs.Refused.{Told, values, refused}
use Rattle.refusal.specs.Checks.{Outcome}
use Rattle.pitch_search.specs.declared.SearchedPitch.{SearchedPitch}
use Rattle.dispatch.specs.Services.{State, Served}
use Rattle.channel_state.specs.declared.ChannelState.{ChannelState}
use Rattle.channel_state.specs.Kinds.{no_channel, last_number}
use Rattle.mr74.specs.Details.{sign_magnitude}
use Rattle.mr74.specs.Frames.{pitch_numbers, no_pitch}
use Rattle.mr74.specs.declared.channels.ChannelAnswer.{ChannelAnswer}
use Rattle.mr74.specs.declared.channels.ServiceAnswer.{ServiceAnswer}

-- number 0 and a channel's number, or a refusal's number and detail and no channel
abbrev pub channel_answer : Told ℕ → ChannelAnswer
channel_answer (values j) = record { number = 0; magnitude = 0; channel = j }
channel_answer (refused n d) = record { number = n; magnitude = (sign_magnitude d).magnitude; channel = no_channel }

-- a refusal's number and detail and no pitch, with the channel whose search it is, if any
abbrev pub refused_service : ℕ → ℤ → ℕ → ℕ → ServiceAnswer
refused_service n d channel last =
    record { number = n; magnitude = (sign_magnitude d).magnitude; channel = channel; last = last; pitch = no_pitch }

-- what the search of a served channel answers
abbrev pub served_answer : ℕ → Told SearchedPitch → ℕ → ServiceAnswer
served_answer j (values p) last = record { number = 0; magnitude = 0; channel = j; last = last; pitch = pitch_numbers p }
served_answer j (refused n d) last = refused_service n d j last

-- what a service step answers, and the last served number after it
abbrev pub told_served_answer : Told (Served SearchedPitch) → ℕ → ServiceAnswer
told_served_answer (values s) last = served_answer s.channel s.found last
told_served_answer (refused n d) last = refused_service n d no_channel last

abbrev pub service_answer : Outcome (Served SearchedPitch) (State ChannelState) → ServiceAnswer
service_answer o = told_served_answer o.answer (last_number o.after.last)
