-- 02, request 14: the proof of the statement, and its examples computed.
use mathlib.Core.Path.{◌≡◌, refl}
use mathlib.Core.Bool.{Bool, true, false}
use mathlib.Core.List.{List}
use Prim.Native.Nat.{ℕ, suc, ◌-◌, ◌*◌, ◌^◌, ◌<◌, ◌≤◌}
use native.Mathlib.Omega.{arith}
use lib.Dec.{ltb, le→leb}
use lib.IntN.{ℤ, pos, negsuc, nat_abs}
use lib.Signed.{mag, ◌≤ℤ◌}
use Rattle.fixed.specs.Lists.{at, Words}
use Rattle.fixed.proofs.Bounds.{mag_abs, word_fits}
use Rattle.fixed.proofs.Lists.{at_tabulate}
use Rattle.fixed.proofs.Signs.{low_id}
use Rattle.sums.specs.Plain.{squared}
use Rattle.open_loop_correlation.specs.Correlations.{correlation}
use Rattle.open_loop_correlation.proofs.Energies.{from}
use Rattle.open_loop_sections.specs.Sections.{scaled_all, long_at, value_at}
use Rattle.open_loop_sections.proofs.Cuts.{long_le, new_le}
use Rattle.open_loop.specs.Detectors.{joined_at, joined}
use Rattle.open_loop.specs.Opens.{open_loop_opens}
use Rattle.open_loop.specs.Statement.{CutChangesNothing, behind, Examples}

-- ---- a number by its magnitude
at_least : (n : ℕ) (z : ℤ) → nat_abs z ≤ suc n → negsuc n ≤ℤ z
at_least n (pos m) h = record { le = tt }
at_least n (negsuc m) h = record { le = le→leb m n (omega arith) }

at_most : (n : ℕ) (z : ℤ) → nat_abs z ≤ n → z ≤ℤ pos n
at_most n (pos m) h = record { le = le→leb m n h }
at_most n (negsuc m) h = record { le = tt }

-- ---- old and new words, joined
joined_words : (old new : List ℤ) → Words old → Words new → (k : ℕ) → k < 223 → mag (at (joined old new) k) < 2 ^ 15
unfolding joined
joined_words old new o n k h = rw (at_tabulate (joined_at old new) (pos 0) 223 k h) (go (ltb k 143) refl)
  where
    go : (t : Bool) → ltb k 143 ≡ t → mag (joined_at old new k) < 2 ^ 15
    go true q = rw q (word_fits (at old k) (o k))
    go false q = rw q (word_fits (at new (k - 143)) (n (k - 143)))

-- ---- where the new words' squares are at most 80 * 2 ^ 24, for any ends that are 27655 or farther from 0
uncut : (low high : ℕ) (xs : List ℤ) (lag : ℕ) → squared (from xs 143) 80 ≤ 80 * 2 ^ 24 → 27655 ≤ suc low → 27655 ≤ high →
    (negsuc low ≤ℤ long_at xs lag) × (long_at xs lag ≤ℤ pos high) × (value_at xs lag ≡ long_at xs lag)
unfolding value_at
uncut low high xs lag new l h =
    let z = long_at xs lag in
    let s = long_le xs lag new in
    (at_least low z (omega (arith, s)), at_most high z (omega (arith, s)), low_id z (omega (arith, s, mag_abs z)))

pub cut_changes_nothing : CutChangesNothing
unfolding CutChangesNothing
cut_changes_nothing d new o n lag =
    uncut _ _ _ lag (new_le (joined d.history_q0 new) (joined_words d.history_q0 new o n)) (omega arith) (omega arith)

-- ---- the examples, a declaration each
clipped : correlation (scaled_all (behind (negsuc 26213))) 100 ≡ pos 2147483647
unfolding open_loop_opens
clipped = refl

loud : long_at (scaled_all (behind (negsuc 26213))) 100 ≡ pos 25904
unfolding open_loop_opens
loud = refl

not_scaled : long_at (behind (negsuc 0)) 100 ≡ pos 207240
unfolding open_loop_opens
not_scaled = refl

not_scaled_cut : value_at (behind (negsuc 0)) 100 ≡ pos 10632
unfolding open_loop_opens
not_scaled_cut = refl

pub examples : Examples
unfolding Examples
examples = (clipped, loud, not_scaled, not_scaled_cut)
