-- 01, 'Feed and program': 'A record is one byte of kind, then a body whose length the kind fixes'.
use Rattle.std.specs.Prelude.{Option, Some, None, Result, Bool, cond, ◌||◌, List, [], ◌∷◌, ℕ, ◌+◌, ◌-◌, ltb, leb, eqb, pos, length, get_or, take, drop}
use Rattle.refusal.specs.Refused.{Told, values, refused, told, put}
use Rattle.refusal.specs.Checks.{Check, checked}
use Rattle.refusal.specs.declared.Refusal.{Refusal}
use Rattle.feed.specs.declared.Kind.{Kind}
use Rattle.feed.specs.declared.Kind.TheVariants.{Reset, HalfFrame, Pitch, Pulses, Gain, Filtering, LagReading}
use Rattle.feed.specs.declared.Record.{Record}

-- '0 reset of detector, searcher and reader, 0 bytes', 'half frame, 160', 'pitch, 551', 'pulses, 163', 'gain, 245', 'filtering, 184', 'lag reading, 2'
unfoldable pub lengths : List ℕ
lengths = 0 ∷ 160 ∷ 551 ∷ 163 ∷ 245 ∷ 184 ∷ 2 ∷ []

-- the number of a kind
abbrev pub kind_number : Kind → ℕ
kind_number Reset = 0
kind_number HalfFrame = 1
kind_number Pitch = 2
kind_number Pulses = 3
kind_number Gain = 4
kind_number Filtering = 5
kind_number LagReading = 6

-- the length that a kind fixes
abbrev pub body_length : ℕ → ℕ
body_length kind = get_or lengths kind 0

-- number 9: a kind is at most 6
abbrev pub known_kind : ℕ → Check
known_kind kind = record { passes = leb kind 6; number = 9; detail = pos kind }

-- number 10: there are as many body bytes as the kind needs
abbrev pub whole_body : ℕ → ℕ → Check
whole_body needed present = record { passes = leb needed present; number = 10; detail = pos present }

-- 01: 'After refusals 9 and 10 it stops', and after no other: behind these two no record can be found
abbrev pub ends_feed : ℕ → Bool
ends_feed number = eqb number 9 || eqb number 10

-- what stands at a place: no record, since the feed ends there, or a whole one of a kind, and the place of the next
pub data Standing : Type 0 where
  nothing : Standing
  whole : ℕ → ℕ → Standing

-- what `header_at` answers, as 01 gives it
abbrev pub standing : Option Record → Standing
standing None = nothing
standing (Some r) = whole (kind_number r.kind) r.next

abbrev pub told_header : Result (Option Record) Refusal → Told Standing
told_header r = put standing (told r)

-- a record of a kind at a place where the feed has not ended
abbrev pub record_of : List ℕ → ℕ → ℕ → Told Standing
record_of feed at kind =
    checked (known_kind kind ∷ whole_body (body_length kind) (length feed - (at + 1)) ∷ []) refused (values (whole kind (at + 1 + body_length kind)))

-- `header_at`: the kind is the byte at the place
unfoldable pub header : List ℕ → ℕ → Told Standing
header feed at = cond (ltb at (length feed)) (record_of feed at (get_or feed at 0)) (values nothing)

-- the body of what stands at a place: the bytes behind its kind
abbrev pub body_of : List ℕ → ℕ → Told Standing → List ℕ
body_of feed at (values nothing) = []
body_of feed at (values (whole kind next)) = take (body_length kind) (drop (at + 1) feed)
body_of feed at (refused n d) = []

-- `body_at`; 'The body is handed back as that part of the caller's feed'
unfoldable pub body : List ℕ → ℕ → List ℕ
body feed at = body_of feed at (header feed at)
