-- 02, request 11: the channel record, 'each holding a searcher and a waiting mark', and what the entries of `dispatch` answer.
use Rattle.std.specs.Prelude.{Result, Ok, Err, List}
use Rattle.refusal.specs.declared.Refusal.{Refusal}
use Rattle.refusal.specs.declared.Step.{Step}
use Rattle.refusal.specs.Refused.{Told, values, turned_down, told}
use Rattle.refusal.specs.Checks.{Outcome}
use Rattle.pitch_search.specs.declared.SearchedPitch.{SearchedPitch}
use Rattle.pitch_search.specs.Inputs.{Input, searched}
use Rattle.dispatch.specs.declared.Channel.{Channel}
use Rattle.dispatch.specs.declared.Service.{Service}
use Rattle.dispatch.specs.declared.Dispatcher.{Dispatcher}
use Rattle.dispatch.specs.Services.{Kind, kind_of, State, Served}

abbrev pub channel_kind : Kind Channel Input SearchedPitch
channel_kind = kind_of (λ c. c.searcher) (λ c. c.waiting) (λ s waiting. record { searcher = s; waiting = waiting }) searched

-- what a service step answers, as 01 has it
abbrev pub told_service : Service → Served SearchedPitch
told_service s = record { channel = s.channel; found = told s.found }

abbrev pub told_services : Result Service Refusal → Told (Served SearchedPitch)
told_services (Ok s) = values (told_service s)
told_services (Err r) = turned_down r

-- its answer, the list and the last served number after it
abbrev pub told_served : {R : Type 0} → Step Service Dispatcher → List R → Outcome (Served SearchedPitch) (State R)
told_served s channels = record { answer = told_services s.answer; after = record { channels = channels; last = s.after.last } }

-- the dispatcher with the list that it is lent
abbrev pub lent : {R : Type 0} → List R → Dispatcher → State R
lent channels d = record { channels = channels; last = d.last }
