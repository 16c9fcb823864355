-- 01, 'What is turned down, in checking order': an entry's checks are a list, and the first that fails gives the refusal.
use Rattle.std.specs.Prelude.{Bool, cond, ◌&&◌, List, [], ◌∷◌, ℕ, leb, ltb, eqb, ℤ, pos, negsuc, length}
use Rattle.std.specs.Int.Signed.{le_z}
use Rattle.refusal.specs.declared.Step.{Step}
use Rattle.refusal.specs.Refused.{Told, values, refused, told}

-- one check: whether it passes, and the number and detail of its refusal
pub record Check : Type 0 where
  pub passes : Bool
  pub number : ℕ
  pub detail : ℤ

-- what is accepted where every check passes, else the refusal of the first that fails
abbrev pub checked : {A : Type 0} → List Check → (ℕ → ℤ → A) → A → A
checked [] refuse accepted = accepted
checked (c ∷ cs) refuse accepted = cond c.passes (checked cs refuse accepted) (refuse c.number c.detail)

-- what an entry with a state answers, and the state that it keeps for the next call
pub record Outcome (A S : Type 0) : Type 0 where
  pub answer : Told A
  pub after : S

-- so of the struct that holds both
abbrev pub told_step : {A S : Type 0} → Step A S → Outcome A S
told_step s = record { answer = told s.answer; after = s.after }

-- a refusal leaves the state as it was
abbrev pub unless_refused : {A S : Type 0} → List Check → S → Outcome A S → Outcome A S
unless_refused cs state accepted = checked cs (λ n d. record { answer = refused n d; after = state }) accepted

-- an answer of several parts, with the state after them: where one of them refuses, the state is as it was
abbrev pub whole_or_nothing : {A S : Type 0} → S → Told (A × S) → Outcome A S
whole_or_nothing state (values (a, after)) = record { answer = values a; after = after }
whole_or_nothing state (refused n d) = record { answer = refused n d; after = state }

-- low to high, both included
abbrev pub within : ℕ → ℕ → ℕ → Bool
within low high n = leb low n && leb n high

-- number 1: a lent list has the length that its stage needs
abbrev pub length_is : ℕ → List ℤ → Check
length_is n xs = record { passes = eqb (length xs) n; number = 1; detail = pos (length xs) }

-- number 2: a subframe number is 1 to 4
abbrev pub known_subframe : ℕ → Check
known_subframe n = record { passes = within 1 4 n; number = 2; detail = pos n }

-- and a limit choice 0 or 1
abbrev pub known_limit : ℕ → Check
known_limit n = record { passes = leb n 1; number = 2; detail = pos n }

-- number 3: an open-loop lag is 20 to the upper lag
abbrev pub open_loop_lag : ℕ → ℕ → Check
open_loop_lag upper n = record { passes = within 20 upper n; number = 3; detail = pos n }

-- number 4: the subframe n is the expected one
abbrev pub in_order : ℕ → ℕ → Check
in_order expected n = record { passes = eqb n expected; number = 4; detail = pos expected }

-- number 6: the pulse stage's lag is 19 to 144
abbrev pub pulse_lag : ℕ → Check
pulse_lag n = record { passes = within 19 144 n; number = 6; detail = pos n }

-- number 7: the exponent of a power is at most 30
abbrev pub power_exponent : ℕ → Check
power_exponent n = record { passes = leb n 30; number = 7; detail = pos n }

-- a predicted one -128 to 127
abbrev pub predicted_exponent : ℤ → Check
predicted_exponent e = record { passes = le_z (negsuc 127) e && le_z e (pos 127); number = 7; detail = e }

-- 02, number 14: 'a fraction above 32767 whose exponent is good, directly after 7'; of a power and of a prediction alike
abbrev pub power_fraction : ℕ → Check
power_fraction n = record { passes = leb n 32767; number = 14; detail = pos n }

-- number 8: a position word is at most 8191
abbrev pub position_word : ℕ → Check
position_word n = record { passes = leb n 8191; number = 8; detail = pos n }

-- and a sign word at most 15
abbrev pub sign_word : ℕ → Check
sign_word n = record { passes = leb n 15; number = 8; detail = pos n }

-- 02, number 15: a list of channels has 1 to 24
abbrev pub channel_count : ℕ → Check
channel_count n = record { passes = within 1 24 n; number = 15; detail = pos n }

-- number 16: a channel to be marked is 0 to the length less 1
abbrev pub channel_number : ℕ → ℕ → Check
channel_number n k = record { passes = ltb k n; number = 16; detail = pos k }
