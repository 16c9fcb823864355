-- Sharpening keeps a list's length.
use mathlib.Core.Path.{◌≡◌, refl, ◌∙◌}
use mathlib.Core.List.{List}
use Prim.Native.Nat.{ℕ, zero, suc, ◌+◌, ◌-◌}
use lib.IntN.{ℤ}
use lib.ListN.{length, length-set}
use Rattle.codebook_sharpening.specs.Sharpenings.{raised, sharpened_to, sharpened}

to_length : (xs : List ℤ) (lag : ℕ) (sharp : ℤ) (n : ℕ) → length (sharpened_to xs lag sharp n) ≡ length xs
unfolding sharpened_to raised
to_length xs lag sharp zero = refl
to_length xs lag sharp (suc n) = length-set (sharpened_to xs lag sharp n) (lag + n) _ ∙ to_length xs lag sharp n

pub sharpened_length : (xs : List ℤ) (lag : ℕ) (sharp : ℤ) → length (sharpened xs lag sharp) ≡ length xs
unfolding sharpened
sharpened_length xs lag sharp = to_length xs lag sharp (40 - lag)
