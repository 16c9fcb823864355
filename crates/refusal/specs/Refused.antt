-- 01, 'What is turned down', and the numbers of 02: the number and the detail of each case. Every contract that speaks of a refusal speaks through these.
use Rattle.std.specs.Prelude.{Bool, true, false, List, ◌∷◌, ◌++◌, ℕ, ℤ, pos, Result, Ok, Err}
use Rattle.std.specs.Fmt.{decimal, signed_decimal}
use Rattle.refusal.specs.declared.Refusal.{Refusal}
use Rattle.refusal.specs.declared.Refusal.TheVariants.{Length, Subframe, LimitChoice, OpenLoopLag, Order, RelativeIndex, PulseLag, Exponent, Positions, Signs, Kind, FeedEnd, Fraction, Channels, Channel, NoneWaits}

-- the number of each case
abbrev pub number : Refusal → ℕ
number (Length n) = 1
number (Subframe n) = 2
number (LimitChoice n) = 2
number (OpenLoopLag n) = 3
number (Order n) = 4
number (RelativeIndex n) = 5
number (PulseLag n) = 6
number (Exponent z) = 7
number (Positions n) = 8
number (Signs n) = 8
number (Kind n) = 9
number (FeedEnd n) = 10
number (Fraction n) = 14
number (Channels n) = 15
number (Channel n) = 16
number NoneWaits = 17

-- the detail of each case: what its field holds, 0 where it has none
abbrev pub detail : Refusal → ℤ
detail (Length n) = pos n
detail (Subframe n) = pos n
detail (LimitChoice n) = pos n
detail (OpenLoopLag n) = pos n
detail (Order n) = pos n
detail (RelativeIndex n) = pos n
detail (PulseLag n) = pos n
detail (Exponent z) = z
detail (Positions n) = pos n
detail (Signs n) = pos n
detail (Kind n) = pos n
detail (FeedEnd n) = pos n
detail (Fraction n) = pos n
detail (Channels n) = pos n
detail (Channel n) = pos n
detail NoneWaits = pos 0

-- a refusal in text: its number, a space, its detail
abbrev pub in_text : Refusal → List ℕ
in_text r = decimal (number r) ++ 32 ∷ signed_decimal (detail r)

-- what an entry answers, told as 01 gives it and not as the struct or enum that holds it: its values, or a number and a detail
pub data Told (A : Type 0) : Type 0 where
  values : A → Told A
  refused : ℕ → ℤ → Told A

-- whether an answer has values
abbrev pub accepts : {A : Type 0} → Told A → Bool
accepts (values a) = true
accepts (refused n d) = false

-- a refusal, told so; 01: 'What is turned down'
abbrev pub turned_down : {A : Type 0} → Refusal → Told A
turned_down r = refused (number r) (detail r)

-- a `Result`, told so
abbrev pub told : {A : Type 0} → Result A Refusal → Told A
told (Ok a) = values a
told (Err r) = turned_down r

-- the same answer with its values put another way
abbrev pub put : {A B : Type 0} → (A → B) → Told A → Told B
put f (values a) = values (f a)
put f (refused n d) = refused n d

-- what follows an answer with values, or the refusal
abbrev pub and_then : {A B : Type 0} → Told A → (A → Told B) → Told B
and_then (values a) next = next a
and_then (refused n d) next = refused n d
