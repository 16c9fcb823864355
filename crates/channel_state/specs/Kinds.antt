-- A channel record in numbers, 'each holding a searcher and a waiting mark': the mark is 0, or any other number where the channel waits.
use Rattle.std.specs.Prelude.{Option, Some, None, cond, not, List, ℕ, eqb}
use Rattle.refusal.specs.Checks.{Outcome}
use Rattle.pitch_search.specs.declared.SearchedPitch.{SearchedPitch}
use Rattle.pitch_search.specs.Inputs.{Input}
use Rattle.pitch_state.specs.declared.PitchState.{PitchState}
use Rattle.pitch_state.specs.Calls.{search_in_numbers}
use Rattle.dispatch.specs.Services.{Kind, kind_of, State}
use Rattle.channel_state.specs.declared.ChannelState.{ChannelState}

-- a search on a state in numbers
abbrev pub searched_in_numbers : PitchState → Input → Outcome SearchedPitch PitchState
searched_in_numbers s x = search_in_numbers s x.excitation x.target x.impulse x.first x.second x.subframe

-- a cleared mark is 0, a set one 1
abbrev pub number_kind : Kind ChannelState Input SearchedPitch
number_kind =
    kind_of (λ c. c.searcher) (λ c. not (eqb c.waiting 0)) (λ s waiting. record { searcher = s; waiting = cond waiting 1 0 }) searched_in_numbers

-- the last served number as it crosses; one that lies beyond the list stands for none
abbrev pub lent_numbers : List ChannelState → ℕ → State ChannelState
lent_numbers channels last = record { channels = channels; last = Some last }

-- the largest `usize`, which lies beyond every list
abbrev pub no_channel : ℕ
no_channel = 18446744073709551615

abbrev pub last_number : Option ℕ → ℕ
last_number None = no_channel
last_number (Some j) = j
