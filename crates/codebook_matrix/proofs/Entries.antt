-- The table is symmetric; a row of it, by its signs and from the sums of all distances.
use mathlib.Core.Path.{◌≡◌, refl, sym, ap, ◌∙◌}
use mathlib.Core.Bool.{Bool, true, false}
use mathlib.Core.List.{List}
use Prim.Native.Nat.{ℕ, ◌+◌, ◌-◌, ◌<◌, ◌≤◌, min, max}
use native.Mathlib.Omega.{arith}
use lib.Dec.{eqb}
use lib.IntN.{ℤ, pos, *ℤ_comm}
use lib.ListN.{length, set, length-set}
use lib.Seq.{get_or-set_same, get_or-set_other}
use borrow.Author.Tests.{eq-eqb, ne_eqb, eqb-true, eqb-false}
use Rattle.fixed.specs.Operators.{mult, L_mult, round}
use Rattle.fixed.specs.Lists.{at, tabulate}
use Rattle.fixed.proofs.Lists.{filled_all, length_tabulate, at_tabulate}
use Rattle.sums.proofs.Rows.{taken}
use Rattle.codebook_matrix.specs.Matrices.{products, signed, entry}

eqb_comm : (i j : ℕ) → eqb i j ≡ eqb j i
eqb_comm i j = go (eqb i j) refl
  where
    go : (t : Bool) → eqb i j ≡ t → eqb i j ≡ eqb j i
    go true q = rw (q, eq-eqb j i (sym (eqb-true i j q)))
    go false q = rw (q, ne_eqb j i (λ (e : j ≡ i). eqb-false i j q (sym e)))

mult_comm : (a b : ℤ) → mult a b ≡ mult b a
unfolding mult
mult_comm a b = rw (*ℤ_comm a b)

pub mirror : (ns signs : List ℤ) (i j : ℕ) → entry ns signs i j ≡ entry ns signs j i
unfolding entry
mirror ns signs i j =
    let a : max i j ≡ max j i = omega arith in
    let b : min i j ≡ min j i = omega arith in
    rw (a, b, eqb_comm i j, mult_comm (at signs i) (at signs j))

-- ---- row j by its signs, and then its diagonal
pub row_signed : (values signs row : List ℤ) (j : ℕ) (v : ℤ) → j < 40 → v ≡ at values j → row ≡ tabulate (λ i. mult (at values i) (mult (at signs i) (at signs j))) 40 →
    set row j v ≡ tabulate (λ i. signed signs i j (at values i)) 40
row_signed values signs row j v h ev er =
    filled_all (λ i. signed signs i j (at values i)) (pos 0) 40 (set row j v) (length-set row j v ∙ n40) (λ i l. go i l (eqb i j) refl)
  where
    n40 : length row ≡ 40
    n40 = ap length er ∙ length_tabulate (λ i. mult (at values i) (mult (at signs i) (at signs j))) (pos 0) 40

    go : (i : ℕ) → i < 40 → (t : Bool) → eqb i j ≡ t → at (set row j v) i ≡ signed signs i j (at values i)
    go i l true q =
        let e = eqb-true i j q in
        rw (q, e) (get_or-set_same row j v (pos 0) (omega (arith, n40)) ∙ ev)
    go i l false q =
        rw q
        (get_or-set_other row j i v (pos 0) (eqb-false i j q) ∙ ap (λ (xs : List ℤ). at xs i) er
        ∙ at_tabulate (λ i. mult (at values i) (mult (at signs i) (at signs j))) (pos 0) 40 i l)

-- ---- the sums of all distances, side by side
-- term k of the sum of a distance, and how many terms that sum has
abbrev pub term : List ℤ → ℕ → ℕ → ℤ
term ns d k = L_mult (at ns k) (at ns (k + d))

abbrev pub terms : ℕ → ℕ
terms d = 40 - d

-- the terms of a distance that fit after place j
fit : (n i j : ℕ) → n + j ≡ 40 → i ≤ j → min n (40 - (j - i)) ≡ 40 - j
fit n i j e l = let d : j - i ≤ j = omega arith in omega (arith, d, e)

at_row : (ns signs : List ℤ) (n i j : ℕ) → n + j ≡ 40 → i ≤ j → signed signs i j (round (taken (term ns) terms n (j - i))) ≡ entry ns signs i j
unfolding entry products
at_row ns signs n i j e l =
    let a : max i j ≡ j = omega arith in
    let b : min i j ≡ i = omega arith in
    rw (a, b, fit n i j e l)

-- after term k, row 39 - k is known
pub entry_known : (ns signs : List ℤ) (k i : ℕ) → k < 40 → i ≤ 39 - k → signed signs i (39 - k) (round (taken (term ns) terms (k + 1) (39 - k - i))) ≡ entry ns signs i (39 - k)
entry_known ns signs k i h l = at_row ns signs (k + 1) i (39 - k) (omega arith) l
