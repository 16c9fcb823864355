-- The lists of a row's gains and of their products: a word of each row, none of them -32768.
use mathlib.Core.List.{List, [], ◌∷◌}
use mathlib.Core.Path.{◌≡◌, ap, ◌∙◌}
use Prim.Native.Nat.{ℕ, zero, suc, ◌<◌, ◌≤◌}
use native.Mathlib.Omega.{arith}
use lib.IntN.{ℤ, pos, nat_abs}
use mir.Syntax.{w16}
use mir.Val.{SFits}
use Rattle.fixed.specs.Operators.{mult}
use Rattle.fixed.specs.Lists.{at, tabulate}
use Rattle.fixed.proofs.Bounds.{fits_abs}
use Rattle.fixed.proofs.Lists.{at_tabulate}
use Rattle.gain_table.specs.Rows.{cell, column}
use Rattle.gain_choice.proofs.Terms.{mult_small, below_left}

-- a list that has a word of each row, none of them -32768
abbrev pub Rows : List ℤ → (ℕ → ℤ) → Type 0
Rows xs f = (k : ℕ) → k < 128 → (at xs k ≡ f k) × (nat_abs (f k) ≤ 32767)

pub column_rows : (c : ℕ) (xs : List ℤ) → xs ≡ column c → ((k : ℕ) → k < 128 → nat_abs (cell c k) ≤ 32767) → Rows xs (cell c)
unfolding column
column_rows c xs e s k l = (ap (λ (ys : List ℤ). at ys k) e ∙ at_tabulate (cell c) (pos 0) 128 k l, s k l)

-- the Q15 products of two lists
pub product_rows : (xs ls rs : List ℤ) (f g : ℕ → ℤ) → xs ≡ tabulate (λ k. mult (at ls k) (at rs k)) 128 →
    Rows ls f → ((k : ℕ) → k < 128 → (at rs k ≡ g k) × SFits w16 (g k)) → Rows xs (λ k. mult (f k) (g k))
product_rows xs ls rs f g r p q k l =
    let a = p k l in
    let b = q k l in (
      ap (λ (ys : List ℤ). at ys k) r ∙ at_tabulate (λ k. mult (at ls k) (at rs k)) (pos 0) 128 k l ∙ rw (a.0, b.0),
      mult_small (f k) (g k) (below_left (f k) (g k) a.1 b.1),
    )

-- a list of words that are not -32768 is one of words
pub words : (xs : List ℤ) (f : ℕ → ℤ) → Rows xs f → (k : ℕ) → k < 128 → (at xs k ≡ f k) × SFits w16 (f k)
words xs f p k l = let a = p k l in (a.0, fits_abs w16 (f k) (omega (arith, a.1)))

-- a row's gain of the code
abbrev pub code : ℤ → ℕ → ℤ
code g k = mult (cell 1 k) g

-- the five products of a row, none of them -32768
pub five_small : (a b c d e : ℤ) → nat_abs a ≤ 32767 → nat_abs b ≤ 32767 → nat_abs c ≤ 32767 → nat_abs d ≤ 32767 → nat_abs e ≤ 32767 →
    (k : ℕ) → k < 5 → nat_abs (at (a ∷ b ∷ c ∷ d ∷ e ∷ []) k) ≤ 32767
five_small a b c d e f g h i j zero l = f
five_small a b c d e f g h i j (suc zero) l = g
five_small a b c d e f g h i j (suc (suc zero)) l = h
five_small a b c d e f g h i j (suc (suc (suc zero))) l = i
five_small a b c d e f g h i j (suc (suc (suc (suc zero)))) l = j
five_small a b c d e f g h i j (suc (suc (suc (suc (suc k))))) l = absurd (omega arith)
