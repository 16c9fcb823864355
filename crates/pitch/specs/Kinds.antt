-- The numbers of 01 that stand behind fractions and subframes, the lag of a fresh searcher, and the open-loop lag.
use Rattle.std.specs.Prelude.{Bool, true, false, [], ◌∷◌, ℕ, ℤ, pos, negsuc, Result}
use Rattle.refusal.specs.Refused.{Told, values, refused, told, put}
use Rattle.refusal.specs.declared.Refusal.{Refusal}
use Rattle.refusal.specs.Checks.{checked, open_loop_lag}
use Rattle.pitch.specs.declared.Fraction.{Fraction}
use Rattle.pitch.specs.declared.Fraction.TheVariants.{MinusThird, Zero, PlusThird}
use Rattle.pitch.specs.declared.Subframe.{Subframe}
use Rattle.pitch.specs.declared.Subframe.TheVariants.{One, Two, Three, Four}
use Rattle.pitch.specs.declared.PitchLag.{PitchLag}
use Rattle.pitch.specs.declared.OpenLoopLag.{OpenLoopLag}
use Rattle.pitch.specs.declared.UpperLag.{UpperLag}
use Rattle.pitch.specs.declared.UpperLag.TheVariants.{Player, Handset}

-- 01: 'Pitch fractions are −1, 0 or 1 thirds of a sample'
abbrev pub thirds : Fraction → ℤ
thirds MinusThird = negsuc 0
thirds Zero = pos 0
thirds PlusThird = pos 1

-- a fraction plus 1, so that the index rules stay in the natural numbers
abbrev pub from_zero : Fraction → ℕ
from_zero MinusThird = 0
from_zero Zero = 1
from_zero PlusThird = 2

-- 'Fresh searcher and fresh reader: previous lag 40, expecting 1'
abbrev pub fresh_lag : PitchLag
fresh_lag = record { samples = 40; fraction = Zero }

-- 01: 'A subframe number', 1 to 4
abbrev pub subframe_number : Subframe → ℕ
subframe_number One = 1
subframe_number Two = 2
subframe_number Three = 3
subframe_number Four = 4

-- subframes 1 and 3
abbrev pub absolute : Subframe → Bool
absolute One = true
absolute Two = false
absolute Three = true
absolute Four = false

-- 01: 'the number after the last place's, with 1 after 4'
abbrev pub following : Subframe → Subframe
following One = Two
following Two = Three
following Three = Four
following Four = One

-- the answer of `try_new`, as 01 gives it
abbrev pub told_lag : Result OpenLoopLag Refusal → Told ℕ
told_lag r = put (λ l. l.0) (told r)

-- 02: 'Searchers and readers are made with 120 or 143 only'
abbrev pub upper_samples : UpperLag → ℕ
upper_samples Player = 120
upper_samples Handset = 143

-- 01, number 3, with an upper lag in place of 143
abbrev pub try_within : ℕ → ℕ → Told ℕ
try_within upper n = checked (open_loop_lag upper n ∷ []) refused (values n)

-- 01, number 3: 'outside 20 to 143'
abbrev pub try_lag : ℕ → Told ℕ
try_lag n = try_within (upper_samples Handset) n
