-- The lag of a lag's index is that lag, for every window and every upper lag from 40 to 143.
use mathlib.Core.Path.{◌≡◌, refl, ap}
use mathlib.Core.Bool.{Bool, true, false}
use mathlib.Core.Logic.{◌⊎◌, inl, inr}
use Prim.Native.Nat.{ℕ, zero, suc, ◌+◌, ◌-◌, ◌*◌, ◌/◌, ◌%◌, ◌≤◌}
use native.Mathlib.Omega.{arith}
use lib.Dec.{leb}
use borrow.Author.Tests.{lt-ltb, le-ltb, le-leb, leb-true}
use Rattle.pitch.specs.declared.Fraction.{Fraction}
use Rattle.pitch.specs.declared.Fraction.TheVariants.{MinusThird, Zero, PlusThird}
use Rattle.pitch.specs.declared.PitchLag.{PitchLag}
use Rattle.pitch.specs.Kinds.{from_zero}
use Rattle.pitch.specs.Windows.{window_start, absolute_start, relative_start}
use Rattle.pitch.specs.Indexes.{absolute_index, relative_index, fraction_at, minus_one, absolute_lag, relative_lag}
use Rattle.pitch.specs.Statement.{in_thirds, AbsoluteChoice, RelativeChoice, AbsoluteBack, RelativeBack, IndexRules, PlayersEnds}

-- ---- fractions
pub from_zero_le : (f : Fraction) → from_zero f ≤ 2
from_zero_le MinusThird = omega arith
from_zero_le Zero = omega arith
from_zero_le PlusThird = omega arith

-- the fraction by the index's remainder is 'index − 2 − 3 × i'
pub same_fraction : (index : ℕ) → fraction_at index ≡ minus_one (index + 2 - 3 * ((index + 2) / 3))
same_fraction index = go (index % 3) refl
  where
    go : (r : ℕ) → index % 3 ≡ r → fraction_at index ≡ minus_one (index + 2 - 3 * ((index + 2) / 3))
    go zero e = let n : index + 2 - 3 * ((index + 2) / 3) ≡ 2 = omega arith in rw (e, n)
    go (suc zero) e = let n : index + 2 - 3 * ((index + 2) / 3) ≡ 0 = omega arith in rw (e, n)
    go (suc (suc zero)) e = let n : index + 2 - 3 * ((index + 2) / 3) ≡ 1 = omega arith in rw (e, n)
    go (suc (suc (suc r))) e = let z : ⊥ = omega arith in absurd z

-- a fraction is read back from a number that leaves its remainder
minus_one_back : (f : Fraction) (n : ℕ) → n ≡ from_zero f → minus_one n ≡ f
minus_one_back MinusThird n e = rw e
minus_one_back Zero n e = rw e
minus_one_back PlusThird n e = rw e

-- ---- the index
-- a whole lag from 85 up has one index, by either line of the rule
whole_index : (l : PitchLag) → 85 ≤ l.samples → l.fraction ≡ Zero → absolute_index l ≡ l.samples + 112
whole_index l h e = go (leb l.samples 85) refl
  where
    go : (t : Bool) → leb l.samples 85 ≡ t → absolute_index l ≡ l.samples + 112
    go true q = rw (q, e) (omega (arith, leb-true l.samples 85 q))
    go false q = rw q

-- ---- a window lies between 20 and the upper lag, for every centre
pub window_low : (span radius upper centre : ℕ) → 20 ≤ window_start span radius upper centre
window_low span radius upper centre = omega arith

pub window_high : (span radius upper centre : ℕ) → 20 + span ≤ upper → window_start span radius upper centre + span ≤ upper
window_high span radius upper centre h = omega arith

-- ---- decode after encode, in a window that starts at `start`
module _ (start : ℕ) (h : 20 ≤ start) (l : PitchLag) (low : 3 * start ≤ in_thirds l + 1) where
  -- by thirds up to 85 and −1, by whole lags from 85 to 143
  abbrev Absolute : Type 0
  Absolute = (in_thirds l ≤ 255) ⊎ ((85 ≤ l.samples) × (l.samples ≤ 143) × (l.fraction ≡ Zero))

  absolute_back : Absolute → absolute_lag (absolute_index l) ≡ l
  absolute_back (inl g) =
      let f = from_zero_le l.fraction in
      let i = in_thirds l - 59 in
      rw (
        le-leb l.samples 85 (omega arith),
        lt-ltb (in_thirds l - 59) 197 (omega arith),
        same_fraction (in_thirds l - 59),
        minus_one_back l.fraction (i + 2 - 3 * ((i + 2) / 3)) (omega arith),
      )
      (ap (λ (n : ℕ). record { samples = n; fraction = l.fraction }) (omega arith))
  absolute_back (inr (b, g, e)) =
      rw (whole_index l b e, le-ltb (l.samples + 112) 197 (omega arith), ← e)
      (ap (λ (n : ℕ). record { samples = n; fraction = l.fraction }) (omega arith))

  absolute_fits : Absolute → absolute_index l ≤ 255
  absolute_fits (inl g) = let f = from_zero_le l.fraction in rw (le-leb l.samples 85 (omega arith)) (omega arith)
  absolute_fits (inr (b, g, e)) = rw (whole_index l b e) (omega arith)

  relative_back : relative_lag start (relative_index start l) ≡ l
  relative_back =
      let f = from_zero_le l.fraction in
      let i = in_thirds l + 1 - 3 * start in
      rw (minus_one_back l.fraction (i + 2 - 3 * ((i + 2) / 3)) (omega arith))
      (ap (λ (n : ℕ). record { samples = n; fraction = l.fraction }) (omega arith))

-- ---- the two rules together, for every upper lag from 40 to 143 and every centre
module _ (upper : ℕ) (h : 40 ≤ upper) (g : upper ≤ 143) (centre : ℕ) (l : PitchLag) where
  pub absolute_round : AbsoluteChoice (absolute_start upper centre) l → AbsoluteBack l
  absolute_round c =
      let start = absolute_start upper centre in
      let a = window_low 6 3 upper centre in
      let b = within c.to in
      (absolute_back start a l c.from b, absolute_fits start a l c.from b)
    where
      within : (in_thirds l ≤ 255) ⊎ ((85 ≤ l.samples) × (l.samples ≤ absolute_start upper centre + 6) × (l.fraction ≡ Zero)) →
          (in_thirds l ≤ 255) ⊎ ((85 ≤ l.samples) × (l.samples ≤ 143) × (l.fraction ≡ Zero))
      within (inl t) = inl t
      within (inr (b, t, e)) = inr (b, omega (arith, window_high 6 3 upper centre (omega arith)), e)

  pub relative_round : RelativeChoice (relative_start upper centre) l → RelativeBack (relative_start upper centre) l
  relative_round c = (relative_back (relative_start upper centre) (window_low 9 5 upper centre) l c.from, omega (arith, c.to))

pub index_rules : IndexRules
unfolding IndexRules
index_rules upper h g centre l = (absolute_round upper h (omega arith) centre l, relative_round upper h (omega arith) centre l)

pub players_ends : PlayersEnds
unfolding PlayersEnds
players_ends = (
  record { from = omega arith; to = inr (omega arith, omega arith, refl) },
  refl,
  record { from = omega arith; to = omega arith },
  refl,
)
