-- The table's rule, by one test over the whole of it, carried to each row.
use mathlib.Core.Path.{◌≡◌, refl}
use mathlib.Core.Bool.{Bool, true, false, cond}
use mathlib.Core.List.{List, [], ◌∷◌}
use Prim.Native.Nat.{ℕ, zero, suc, ◌<◌, ◌≤◌}
use lib.Dec.{T, leb, ltb, leb→le}
use lib.IntN.{ℤ, pos, nat_abs}
use lib.ListN.{get_or}
use lib.Signed.{le_z}
use Rattle.fixed.specs.Lists.{at}
use Rattle.fixed.proofs.Tables.{both, both_left, both_right, at as tested_at}
use Rattle.gain_table.specs.Rows.{table, pitch, correction, Ruled}

same : Bool → Bool → Bool
same true b = b
same false b = cond b false true

same_is : (a b : Bool) → T (same a b) → a ≡ b
unfolding same
same_is true true t = refl
same_is true false t = absurd t
same_is false true t = absurd t
same_is false false t = refl

true_is : (a : Bool) → T a → a ≡ true
true_is true t = refl
true_is false t = absurd t

ruled : ℕ → List ℤ → Bool
ruled i row = both (same (le_z (at row 0) (pos 15565)) (ltb i 96)) (both (le_z (pos 662) (at row 1)) (le_z (at row 1) (pos 32764)))

tested : (i : ℕ) → i < 128 → T (ruled i (get_or table i []))
unfolding ruled same table
tested i h = tested_at [] ruled table tt i h

pub rule : (i : ℕ) → i < 128 → Ruled i
unfolding ruled
rule i h =
    let row = get_or table i [] in
    let low = both_left (same (le_z (at row 0) (pos 15565)) (ltb i 96)) _ (tested i h) in
    let rest = both_right (same (le_z (at row 0) (pos 15565)) (ltb i 96)) _ (tested i h) in
    record {
      pitch_limit = same_is _ _ low;
      correction_from = true_is _ (both_left (le_z (pos 662) (at row 1)) _ rest);
      correction_to = true_is _ (both_right (le_z (pos 662) (at row 1)) _ rest);
    }

-- no pitch and no correction is -32768
small : ℕ → List ℤ → Bool
small i row = both (leb (nat_abs (at row 0)) 32767) (leb (nat_abs (at row 1)) 32767)

all_small : (i : ℕ) → i < 128 → T (small i (get_or table i []))
unfolding small table
all_small i h = tested_at [] small table tt i h

pub pitch_small : (i : ℕ) → i < 128 → nat_abs (pitch i) ≤ 32767
unfolding small
pitch_small i h = leb→le (nat_abs (pitch i)) 32767 (both_left (leb (nat_abs (pitch i)) 32767) _ (all_small i h))

pub correction_small : (i : ℕ) → i < 128 → nat_abs (correction i) ≤ 32767
unfolding small
correction_small i h = leb→le (nat_abs (correction i)) 32767 (both_right (leb (nat_abs (pitch i)) 32767) _ (all_small i h))

-- past the last row a row of three zeros reads as none does
zeros : (k : ℕ) → at (pos 0 ∷ pos 0 ∷ pos 0 ∷ []) k ≡ pos 0
zeros zero = refl
zeros (suc zero) = refl
zeros (suc (suc zero)) = refl
zeros (suc (suc (suc k))) = refl

pub or_zeros : (rows : List (List ℤ)) (i k : ℕ) → at (get_or rows i (pos 0 ∷ pos 0 ∷ pos 0 ∷ [])) k ≡ at (get_or rows i []) k
or_zeros [] i k = zeros k
or_zeros (row ∷ rows) zero k = refl
or_zeros (row ∷ rows) (suc i) k = or_zeros rows i k
