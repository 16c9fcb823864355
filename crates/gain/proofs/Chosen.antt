-- 01: 'The answer is the lowest index of least clipped distance among rows within the limit', of the stage's own answer; and what the table's rule adds.
use mathlib.Core.Path.{◌≡◌, refl}
use mathlib.Core.Bool.{true}
use mathlib.Core.List.{List}
use Prim.Native.Nat.{ℕ, zero, suc, ◌<◌}
use lib.IntN.{ℤ}
use borrow.Author.Tests.{ltb-true}
use Rattle.gain_table.specs.Rows.{table}
use Rattle.gain_table.proofs.Rules.{rule}
use Rattle.gain_limit.specs.Limits.{gp_limit}
use Rattle.gain_choice.specs.Rows.{row_distance, within_limit, LowestOfLeast}
use Rattle.gain_choice.proofs.Chosen.{nearest_is}
use Rattle.gain.specs.Rows.{gcode0, weights, Qua_gain}

-- row 0 is within both limits
first_allowed : (choice : ℕ) → within_limit (gp_limit choice) 0 ≡ true
unfolding table
first_allowed zero = refl
first_allowed (suc n) = refl

module _ (xs ys zs : List ℤ) (exponent : ℤ) (fraction choice : ℕ) where
  pub chosen_row : LowestOfLeast (within_limit (gp_limit choice)) (row_distance (weights xs ys zs exponent) (gcode0 fraction)) 128 (Qua_gain xs ys zs exponent fraction (gp_limit choice)).index
  unfolding Qua_gain
  chosen_row = nearest_is (weights xs ys zs exponent) (gcode0 fraction) (gp_limit choice) (first_allowed choice)

-- within the resonance limit are rows 0 to 95
pub in_resonance : (i : ℕ) → i < 128 → within_limit (gp_limit 1) i ≡ true → i < 96
in_resonance i h w = ltb-true i 96 (rw (rule i h).pitch_limit at w)

-- so the row chosen there is one of these
pub resonance_row : (xs ys zs : List ℤ) (exponent : ℤ) (fraction : ℕ) → (Qua_gain xs ys zs exponent fraction (gp_limit 1)).index < 96
resonance_row xs ys zs exponent fraction = let L = chosen_row xs ys zs exponent fraction 1 in in_resonance _ L.row L.allowed
