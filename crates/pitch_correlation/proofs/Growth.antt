-- How loud a filtered list can be, by what is known before it is walked: the energy of the list before it, the sample that comes in, the response's peak.
use mathlib.Core.Path.{◌≡◌}
use mathlib.Core.Bool.{Bool, true, false, cond}
use mathlib.Core.List.{List}
use Prim.Native.Nat.{ℕ, zero, suc, ◌+◌, ◌-◌, ◌*◌, ◌/◌, ◌^◌, ◌≤◌, ◌<◌, min}
use native.Mathlib.Nat.{le_refl, le_trans, mul-le-mul}
use native.Mathlib.Omega.{arith}
use lib.IntN.{ℤ, pos, negsuc, nat_abs, ◌+ℤ◌, ◌*ℤ◌}
use lib.Signed.{shr_z}
use Rattle.fixed.specs.Operators.{add, L_mult, L_shl, extract_h, shift_at}
use Rattle.fixed.specs.Lists.{at, tabulate, shifted, dot}
use Rattle.fixed.proofs.Bounds.{abs_add, abs_mul, abs_shr, shift_le}
use Rattle.fixed.proofs.Clips.{abs_clip}
use Rattle.fixed.proofs.Lists.{at_tabulate}
use Rattle.fixed.proofs.Products.{product_high}
use Rattle.sums.specs.Plain.{squared}
use Rattle.sums.proofs.Sums.{energy_is}
use Rattle.sums.proofs.Quiet.{mean, squared_more, squared_le, squared_same}
use Rattle.pitch_correlation.specs.Correlations.{scaled, scaled_all, update_at, update}

-- what a sample adds to a word at most, beside a response whose words are at most p
abbrev pub most : Bool → ℤ → ℕ → ℕ
most l s p = nat_abs s * p / 2 ^ cond l 14 12 + 1

-- its part in a word past the first
part_by : (n : ℕ) (s h : ℤ) (p : ℕ) → n ≤ 15 → nat_abs h ≤ p → nat_abs (extract_h (L_shl (L_mult s h) (pos n))) ≤ nat_abs s * p / 2 ^ (15 - n) + 1
part_by n s h p l b =
    let m : nat_abs (s *ℤ h) ≤ nat_abs s * p = rw (abs_mul s h) (mul-le-mul (le_refl (nat_abs s)) b) in
    rw (product_high s h n l) (le_trans (abs_clip 15 (shr_z (s *ℤ h) (2 ^ (15 - n)))) (shift_le (s *ℤ h) (15 - n) (nat_abs s * p) m))

part_le : (l : Bool) (s h : ℤ) (p : ℕ) → nat_abs h ≤ p → nat_abs (extract_h (L_shl (L_mult s h) (pos (cond l 1 3)))) ≤ most l s p
part_le true s h p b = part_by 1 s h p (omega arith) b
part_le false s h p b = part_by 3 s h p (omega arith) b

-- and the first word, 4096 being 1 in Q12
first_le : (l : Bool) (s : ℤ) (p : ℕ) → 4096 ≤ p → nat_abs (scaled l s) ≤ most l s p
unfolding shift_at
first_le true s p b = omega (arith, shift_le s 2 (nat_abs s) (le_refl (nat_abs s)), mul-le-mul (le_refl (nat_abs s)) b)
first_le false s p b = omega (arith, mul-le-mul (le_refl (nat_abs s)) b)

-- what a search knows of its target and its response: a room for squares beside the one, a peak of the other and of 1
abbrev pub Known : List ℤ → List ℤ → ℕ → ℕ → Type 0
Known ts hs room p = (room < 2 ^ 30) × (room * squared (at ts) 40 < 2 ^ 60) × (4096 ≤ p) × ((k : ℕ) → k < 40 → nat_abs (at hs k) ≤ p)

-- a list of which neither sum is clipped, by its squares and the target's
abbrev pub Quiet : List ℤ → List ℤ → Type 0
Quiet ts fs = (squared (at fs) 40 < 2 ^ 30) × (squared (at fs) 40 * squared (at ts) 40 < 2 ^ 60)

-- so is one whose squares are within the room
within : (ts hs : List ℤ) (room p : ℕ) (fs : List ℤ) → Known ts hs room p → squared (at fs) 40 ≤ room → Quiet ts fs
within ts hs room p fs known h = (omega (arith, h, known.0), omega (arith, mul-le-mul h (le_refl (squared (at ts) 40)), known.1))

module _ (ts hs : List ℤ) (room p : ℕ) (known : Known ts hs room p) (l : Bool) (s : ℤ) (fs : List ℤ) where
  -- (a + b)² is at most 2 a² + 2 b²
  grown_by : (n : ℕ) → n < 40 → squared (update_at l hs s fs) (suc n) ≤ 2 * squared (at fs) n + suc n * (2 * (most l s p * most l s p))
  unfolding squared update_at add
  grown_by zero h = let f = first_le l s p known.2 in omega (arith, mul-le-mul f f)
  grown_by (suc n) h =
      let a : ℤ = extract_h (L_shl (L_mult s (at hs (suc n))) (pos (cond l 1 3))) in
      let w : nat_abs (update_at l hs s fs (suc n)) ≤ most l s p + nat_abs (at fs n) =
      omega (arith, abs_clip 15 (a +ℤ at fs n), abs_add a (at fs n), part_le l s (at hs (suc n)) p (known.3 (suc n) h))
      in
      omega (arith, grown_by n (omega arith), mul-le-mul w w, mean (most l s p) (nat_abs (at fs n)))

  -- the squares of the list one lag on
  grown : squared (at (update l hs s fs)) 40 ≤ 2 * squared (at fs) 40 + 80 * (most l s p * most l s p)
  unfolding update
  grown =
      let e = squared_same (at (tabulate (update_at l hs s fs) 40)) (update_at l hs s fs) 40 (λ k h. at_tabulate (update_at l hs s fs) (pos 0) 40 k h) in
      omega (arith, e, grown_by 39 (omega arith), squared_more (at fs) 39 1)

  -- by the energy of the list before, which is not clipped within the room
  pub next_quiet : (energy : ℤ) → energy ≡ dot fs fs 40 → nat_abs energy + 80 * (most l s p * most l s p) ≤ room → Quiet ts (update l hs s fs)
  next_quiet energy e h =
      let g : nat_abs energy ≡ min (2 * squared (at fs) 40) 2147483647 = rw (e, energy_is fs 40) in
      within ts hs room p (update l hs s fs) known (omega (arith, grown, g, h, known.0))

-- a list is no louder once it is scaled
scaled_le : (l : Bool) (fs : List ℤ) → squared (at (scaled_all l fs)) 40 ≤ squared (at fs) 40
unfolding scaled_all shifted shift_at
scaled_le true fs =
    omega (arith, squared_le (at (shifted fs (negsuc 1) 40)) (at fs) 1 40 (λ k h. rw (at_tabulate (λ k. shr_z (at fs k) (2 ^ 2)) (pos 0) 40 k h) (omega (arith, abs_shr (at fs k) (2 ^ 2)))))
scaled_le false fs = le_refl (squared (at fs) 40)

-- so the first list, by its own squares
pub first_quiet : (ts hs : List ℤ) (room p : ℕ) → Known ts hs room p → (l : Bool) (fs : List ℤ) → squared (at fs) 40 ≤ room → Quiet ts (scaled_all l fs)
first_quiet ts hs room p known l fs h = within ts hs room p (scaled_all l fs) known (omega (arith, h, scaled_le l fs))
