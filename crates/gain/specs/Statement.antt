-- 02, request 14: the resonance limit beside none, for the same lists and the same predicted pair. And request 09: a sum that is never clipped.
use Rattle.std.specs.Prelude.{◌≡◌, List, [], ◌∷◌, ℕ, ◌≤◌, ℤ, pos, negsuc, replicate, ◌≤ℤ◌}
use Rattle.fixed.specs.Lists.{Words}
use Rattle.refusal.specs.Refused.{values}
use Rattle.gain_limit.specs.Limits.{gp_limit}
use Rattle.gain_choice.specs.Rows.{row_distance}
use Rattle.gain.specs.declared.QuantizedGain.{QuantizedGain}
use Rattle.gain.specs.Rows.{gcode0, weights, chosen, Qua_gain, quantize}

-- of the distances of a stage's rows: `free` is the row chosen unrestricted and `held` the one under the resonance limit, each of least distance within
-- its limit (`chosen_row`)
pub record Beside (distance : ℕ → ℤ) (free held : ℕ) : Type 0 where
  -- 'the least distance under the resonance limit is never below the unrestricted one'
  pub never_below : distance free ≤ℤ distance held
  -- 'the two rows are equal exactly when the unrestricted row is 95 or lower'
  pub equal : free ≤ 95 → held ≡ free
  pub only_then : held ≡ free → free ≤ 95

-- the distances of the rows
abbrev pub distance_of : List ℤ → List ℤ → List ℤ → ℤ → ℕ → ℕ → ℤ
distance_of xs ys zs exponent fraction = row_distance (weights xs ys zs exponent) (gcode0 fraction)

-- of the stage, whatever the lists and the pair
unfoldable pub LimitsOfTheStage : Type 0
LimitsOfTheStage =
    (xs ys zs : List ℤ) (exponent : ℤ) (fraction : ℕ) →
    Beside (distance_of xs ys zs exponent fraction)
    (Qua_gain xs ys zs exponent fraction (gp_limit 0)).index (Qua_gain xs ys zs exponent fraction (gp_limit 1)).index

-- of the entry: where `quantize` answers with the choice 0 it answers with the choice 1
pub record AnsweredToo (xs ys zs : List ℤ) (exponent : ℤ) (fraction : ℕ) (q : QuantizedGain) : Type 0 where
  pub other : QuantizedGain
  pub answered : quantize xs ys zs exponent fraction 1 ≡ values other
  pub beside : Beside (distance_of xs ys zs exponent fraction) q.index other.index

unfoldable pub LimitsOfTheEntry : Type 0
LimitsOfTheEntry =
    (xs ys zs : List ℤ) (exponent : ℤ) (fraction : ℕ) (q : QuantizedGain) →
    quantize xs ys zs exponent fraction 0 ≡ values q → AnsweredToo xs ys zs exponent fraction q

-- ---- 02, request 09: the count of the innovation's energy is 0 whatever the words, since an eighth of one is within 4096
unfoldable pub InnovationNeverClips : Type 0
InnovationNeverClips =
    (xs ys zs : List ℤ) (exponent : ℤ) (fraction : ℕ) (limit : ℤ) → Words zs → (Qua_gain xs ys zs exponent fraction limit).innovation_clips.energy ≡ 0

-- ---- computed
-- the row of lists that hold one word each, with the fraction 0
abbrev pub row_of : ℤ → ℤ → ℤ → ℤ → ℕ → ℕ
row_of x y z exponent choice = (Qua_gain (replicate 40 x) (replicate 40 y) (replicate 40 z) exponent 0 (gp_limit choice)).index

-- 95 is the last row that is the same under both, 96 the first that is not
unfoldable pub Examples : Type 0
Examples =
    (row_of (pos 5) (pos 2) (pos 10) (pos 8) 0 ≡ 95)
    × (row_of (pos 5) (pos 2) (pos 10) (pos 8) 1 ≡ 95)
    × (row_of (pos 0) (pos 0) (pos 0) (negsuc 19) 0 ≡ 96)
    × (row_of (pos 0) (pos 0) (pos 0) (negsuc 19) 1 ≡ 84)

-- where target, adaptive words and innovation are all -32768: every term of the first two sums, none of the innovation's energy, and of its products
-- with the others the terms from the eighth on. Where they are all 1, no term
abbrev pub counts_of : ℤ → List ℕ
counts_of v =
    let q = chosen (replicate 40 v) (replicate 40 v) (replicate 40 v) 0 in
    q.pitch_clips.energy ∷ q.pitch_clips.target ∷ q.innovation_clips.energy ∷ q.innovation_clips.target ∷ q.innovation_clips.adaptive ∷ []

unfoldable pub ExamplesOfCounts : Type 0
ExamplesOfCounts = (counts_of (negsuc 32767) ≡ 40 ∷ 40 ∷ 0 ∷ 33 ∷ 33 ∷ []) × (counts_of (pos 1) ≡ 0 ∷ 0 ∷ 0 ∷ 0 ∷ 0 ∷ [])
