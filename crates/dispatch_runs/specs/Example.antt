-- A run on three channels, a handset's, a player's and a handset's that does not wait. All samples are 0, and both open-loop lags are 80, or 121 where a player refuses.
use Rattle.std.specs.Prelude.{◌≡◌, Option, Some, None, Bool, true, false, List, [], ◌∷◌, ℕ, map, pos, replicate}
use Rattle.refusal.specs.Refused.{Told, values, refused, put}
use Rattle.pitch.specs.declared.UpperLag.{UpperLag}
use Rattle.pitch.specs.declared.UpperLag.TheVariants.{Player, Handset}
use Rattle.pitch_search.specs.declared.SearchedPitch.{SearchedPitch}
use Rattle.pitch_search.specs.Inputs.{Input, silent_at}
use Rattle.pitch_search.specs.Searches.{fresh_search}
use Rattle.pitch_state.specs.declared.PitchState.{PitchState}
use Rattle.dispatch.specs.declared.Channel.{Channel}
use Rattle.dispatch.specs.Services.{State, next_of, serve_of, mark_of}
use Rattle.dispatch.specs.Channels.{channel_kind}
use Rattle.channel_state.specs.declared.ChannelState.{ChannelState}
use Rattle.channel_state.specs.Kinds.{number_kind, lent_numbers, no_channel}
use Rattle.dispatch_runs.specs.Runs.{Entry, serve, mark, tell, Event, stepped, marked, told_next, Step, run}
use Rattle.dispatch_runs.specs.Statement.{own_inputs, own_answers}

abbrev pub fresh_channel : UpperLag → Bool → Channel
fresh_channel upper waiting = record { searcher = fresh_search upper; waiting = waiting }

-- the last served number is 0, so the round begins at 1
abbrev pub three : State Channel
three = record { channels = fresh_channel Handset true ∷ fresh_channel Player true ∷ fresh_channel Handset false ∷ []; last = Some 0 }

unfoldable pub entries : List (Entry Input)
entries =
    mark 2
    ∷ mark 3
    ∷ tell
    ∷ serve (silent_at 121 1)
    ∷ serve (silent_at 80 1)
    ∷ mark 1
    ∷ serve (silent_at 80 1)
    ∷ tell
    ∷ serve (silent_at 80 1)
    ∷ serve (silent_at 144 5)
    ∷ mark 0
    ∷ serve (silent_at 80 2)
    ∷ []

-- an event with indexes for pitches
pub data Seen : Type 0 where
  served : ℕ → Told ℕ → Seen
  refused_by : ℕ → Seen
  mark_set : Seen
  next : ℕ → Seen

abbrev pub seen : Event Input SearchedPitch → Seen
seen (stepped x (values s)) = served s.channel (put (λ p. p.index) s.found)
seen (stepped x (refused n d)) = refused_by n
seen (marked k (values u)) = mark_set
seen (marked k (refused n d)) = refused_by n
seen (told_next (values j)) = next j
seen (told_next (refused n d)) = refused_by n

-- channel 1 is served although its player refuses lag 121; marked again it waits behind 2 and 0, round the list; then none waits, which is told before
-- the faults of the inputs; and channel 0 is marked and served again, in subframe 2
unfoldable pub happens : List Seen
happens =
    mark_set
    ∷ refused_by 16
    ∷ next 1
    ∷ served 1 (refused 3 (pos 121))
    ∷ served 2 (values 189)
    ∷ mark_set
    ∷ served 0 (values 189)
    ∷ next 1
    ∷ served 1 (values 189)
    ∷ refused_by 17
    ∷ mark_set
    ∷ served 0 (values 27)
    ∷ []

-- after each entry: which channels wait, and the last served number
unfoldable pub waits_after : List (List Bool × Option ℕ)
waits_after =
    (true ∷ true ∷ true ∷ [], Some 0)
    ∷ (true ∷ true ∷ true ∷ [], Some 0)
    ∷ (true ∷ true ∷ true ∷ [], Some 0)
    ∷ (true ∷ false ∷ true ∷ [], Some 1)
    ∷ (true ∷ false ∷ false ∷ [], Some 2)
    ∷ (true ∷ true ∷ false ∷ [], Some 2)
    ∷ (false ∷ true ∷ false ∷ [], Some 0)
    ∷ (false ∷ true ∷ false ∷ [], Some 0)
    ∷ (false ∷ false ∷ false ∷ [], Some 1)
    ∷ (false ∷ false ∷ false ∷ [], Some 1)
    ∷ (true ∷ false ∷ false ∷ [], Some 1)
    ∷ (false ∷ false ∷ false ∷ [], Some 0)
    ∷ []

-- ---- a list with one channel, whose steps get the inputs of channel 0 above: its answers are the same
abbrev pub one : State Channel
one = record { channels = fresh_channel Handset false ∷ []; last = None }

unfoldable pub entries_of_one : List (Entry Input)
entries_of_one = mark 0 ∷ serve (silent_at 80 1) ∷ tell ∷ mark 0 ∷ serve (silent_at 80 2) ∷ serve (silent_at 80 3) ∷ []

abbrev pub indexes : List (Told SearchedPitch) → List (Told ℕ)
indexes = map (put (λ p. p.index))

unfoldable pub SameAnswers : Type 0
SameAnswers =
    (own_inputs 0 (run channel_kind three entries) ≡ silent_at 80 1 ∷ silent_at 80 2 ∷ [])
    × (own_inputs 0 (run channel_kind one entries_of_one) ≡ silent_at 80 1 ∷ silent_at 80 2 ∷ [])
    × (indexes (own_answers 0 (run channel_kind three entries)) ≡ values 189 ∷ values 27 ∷ [])
    × (indexes (own_answers 0 (run channel_kind one entries_of_one)) ≡ values 189 ∷ values 27 ∷ [])

-- ---- in numbers: a searcher that expects subframe 7, marked by 255, is served and refused; its mark is 0 after it, and the other channel's is as it was
abbrev pub in_numbers : ℕ → ℕ → ChannelState
in_numbers expected waiting =
    let s : PitchState = record { samples = 40; fraction = pos 0; next = expected; upper = 143; start = 0 } in
    record { searcher = s; waiting = waiting }

abbrev pub two : ℕ → State ChannelState
two waiting = lent_numbers (in_numbers 1 waiting ∷ in_numbers 7 255 ∷ []) 0

unfoldable pub NumbersExample : Type 0
NumbersExample =
    (serve_of number_kind (two 2) (silent_at 80 1)
    ≡ record {
      answer = values (record { channel = 1; found = refused 2 (pos 7) });
      after = record { channels = in_numbers 1 2 ∷ in_numbers 7 0 ∷ []; last = Some 1 };
    })
    × (next_of number_kind (lent_numbers (in_numbers 1 2 ∷ in_numbers 7 0 ∷ []) 1) ≡ values 0)
    × (mark_of number_kind (in_numbers 1 2 ∷ in_numbers 7 0 ∷ []) 1 ≡ record { answer = values tt; after = in_numbers 1 2 ∷ in_numbers 7 1 ∷ [] })
    × (next_of number_kind (lent_numbers (in_numbers 1 0 ∷ in_numbers 7 0 ∷ []) no_channel) ≡ refused 17 (pos 0))

-- ---- lists that are refused, and where a round begins
abbrev pub waiting_list : ℕ → Option ℕ → State Channel
waiting_list n last = record { channels = replicate n (fresh_channel Handset true); last = last }

unfoldable pub Example : Type 0
Example =
    (map (λ (s : Step Channel Input SearchedPitch). seen s.event) (run channel_kind three entries) ≡ happens)
    × (map (λ (s : Step Channel Input SearchedPitch). (map (λ (c : Channel). c.waiting) s.after.channels, s.after.last)) (run channel_kind three entries) ≡ waits_after)
    × ((serve_of channel_kind (waiting_list 0 None) (silent_at 144 5)).answer ≡ refused 15 (pos 0))
    × ((serve_of channel_kind (waiting_list 25 None) (silent_at 144 5)).answer ≡ refused 15 (pos 25))
    × ((mark_of channel_kind (waiting_list 25 None).channels 25).answer ≡ refused 15 (pos 25))
    × ((mark_of channel_kind (waiting_list 24 None).channels 24).answer ≡ refused 16 (pos 24))
    × (next_of channel_kind (waiting_list 24 None) ≡ values 0)
    × (next_of channel_kind (waiting_list 24 (Some 22)) ≡ values 23)
    × (next_of channel_kind (waiting_list 24 (Some 23)) ≡ values 0)
    × (next_of channel_kind (waiting_list 24 (Some 24)) ≡ values 0)
    × (next_of channel_kind (waiting_list 1 (Some 0)) ≡ values 0)
    × (next_of channel_kind (record { channels = fresh_channel Handset false ∷ []; last = None }) ≡ refused 17 (pos 0))
