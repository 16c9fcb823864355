use mathlib.Core.Path.{◌≡◌}
use mathlib.Core.List.{List, [], ◌∷◌}
use Prim.Native.Nat.{ℕ, ◌*◌, ◌<◌, ◌≤◌}
use native.Mathlib.Omega.{arith}
use lib.IntN.{ℤ, pos, nat_abs}
use lib.ListN.{replicate, get_or-replicate}
use mir.Syntax.{w16, w64}
use mir.Val.{Fits, SFits, to_z, of_z}
use mir.Facts.{to_z-of_z}
use borrow.Author.Rules.{rules}
use Rattle.std.proofs.lemmas.Fn.{serves_by}
use Rattle.fixed.specs.Operators.{mult, Mpy_32_16}
use Rattle.fixed.specs.Lists.{at, tabulate, L_sum}
use Rattle.fixed.proofs.Made.{made}
use Rattle.gain_table.specs.Rows.{cell, column}
use Rattle.gain_table.proofs.Rules.{pitch_small, correction_small}
use Rattle.gain_choice.specs.Rows.{products, distance, row_distance, distances}
use Rattle.gain_choice.proofs.Codes.{Rows, code, column_rows, product_rows, words, five_small}
use Rattle.gain_choice.proofs.distances.Goals as goal

-- a word of a row, read from its bits
kept : (xs : List ℤ) (f : ℕ → ℤ) → Rows xs f → (k : ℕ) → k < 128 → to_z w16 (of_z w16 (at xs k)) ≡ f k
kept xs f p k l = let w = words xs f p k l in rw w.0 (to_z-of_z w.1)

small : (xs : List ℤ) (f : ℕ → ℤ) → Rows xs f → (k : ℕ) → k < 128 → nat_abs (to_z w16 (of_z w16 (at xs k))) ≤ 32767
small xs f p k l = rw (kept xs f p k l) (p k l).1

-- what the five lists hold
record Lists (g : ℤ) (pitch_squares pitches code_squares codes both : List ℤ) : Type 0 where
  pitch_square : Rows pitch_squares (λ k. mult (cell 0 k) (cell 0 k))
  pitch : Rows pitches (cell 0)
  code_square : Rows code_squares (λ k. mult (code g k) (code g k))
  gain : Rows codes (code g)
  product : Rows both (λ k. mult (code g k) (cell 0 k))

lists : (g : ℤ) → SFits w16 g → (ps os cs pp cc cp : List ℤ) → ps ≡ column 0 → os ≡ column 1 →
    cs ≡ tabulate (λ k. mult (at os k) (at (replicate 128 g) k)) 128 → pp ≡ tabulate (λ k. mult (at ps k) (at ps k)) 128 →
    cc ≡ tabulate (λ k. mult (at cs k) (at cs k)) 128 → cp ≡ tabulate (λ k. mult (at cs k) (at ps k)) 128 → Lists g pp ps cc cs cp
lists g s ps os cs pp cc cp p o c e f h =
    let p1 = column_rows 0 ps p pitch_small in
    let o1 = column_rows 1 os o correction_small in
    let c1 = product_rows cs os (replicate 128 g) (cell 1) (λ k. g) c o1 (λ k l. (get_or-replicate 128 k g (pos 0) l, s)) in
    record {
      pitch_square = product_rows pp ps ps (cell 0) (cell 0) e p1 (words ps (cell 0) p1);
      pitch = p1;
      code_square = product_rows cc cs cs (code g) (code g) f c1 (words cs (code g) c1);
      gain = c1;
      product = product_rows cp cs ps (code g) (cell 0) h c1 (words ps (cell 0) p1);
    }

pub from_fn-requires : goal.from_fn-requires
from_fn-requires c =
    let g : ℤ = to_z w16 (of_z w16 c.args.gcode0) in
    let a : Lists g c.fractions-pitch_squares.result c.args.pitches_q14.now c.fractions-code_squares.result c.fractions-codes.result c.fractions-both.result =
    lists g (rw (to_z-of_z c.ranges.gcode0) c.ranges.gcode0) _ c.corrections.result _ _ _ _ c.requires c.corrections.ensures
    c.fractions-codes.ensures c.fractions-pitch_squares.ensures c.fractions-code_squares.ensures c.fractions-both.ensures in (
      omega arith,
      serves_by _ (λ xs q. Lists g q.1.now q.2.now q.3.now q.4.now q.5.now) (λ xs q x v e r. let s : v ≡ q = search rules in rw s e) _ _ _ _ a (λ xs t q x u y st e.
          let h : x < 128 = omega (arith, st.0, st.1) in
          let f : Fits w64 (x * 2) = search rules in (
            λ κ r n z w. f,
            λ κ r n z w. h,
            λ κ r n z w b1. f,
            λ κ r n z w b1. h,
            λ κ r n z w b1 b2. f,
            λ κ r n z w b1 b2. h,
            λ κ r n z w b1 b2 b3. f,
            λ κ r n z w b1 b2 b3. h,
            λ κ r n z w b1 b2 b3 b4. f,
            λ κ r n z w b1 b2 b3 b4. h,
            λ κ r n z w b1 b2 b3 b4 b5 m l.
                five_small _ _ _ _ _
                (small q.1.now (λ k. mult (cell 0 k) (cell 0 k)) e.pitch_square x h)
                (small q.2.now (cell 0) e.pitch x h)
                (small q.3.now (λ k. mult (code g k) (code g k)) e.code_square x h)
                (small q.4.now (code g) e.gain x h)
                (small q.5.now (λ k. mult (code g k) (cell 0 k)) e.product x h),
          )),
    )

pub returns : goal.returns
unfolding distances row_distance distance products
returns c =
    let g : ℤ = to_z w16 (of_z w16 c.args.gcode0) in
    let ws = c.args.weights.now in
    let ps = c.args.pitches_q14.now in
    let pp = c.fractions-pitch_squares.result in
    let cc = c.fractions-code_squares.result in
    let cs = c.fractions-codes.result in
    let cp = c.fractions-both.result in
    let a : Lists g pp ps cc cs cp =
    lists g (rw (to_z-of_z c.ranges.gcode0) c.ranges.gcode0) _ c.corrections.result _ _ _ _ c.requires c.corrections.ensures
    c.fractions-codes.ensures c.fractions-pitch_squares.ensures c.fractions-code_squares.ensures c.fractions-both.ensures in
    rw (to_z-of_z c.ranges.gcode0) at (made _ (pos 0) (row_distance ws g) 128 _ (λ k r f' l h.
    let s : (r ≡ L_sum (pos 0) (λ j. Mpy_32_16 (at ws j) (at (to_z w16 (of_z w16 (at pp k)) ∷ to_z w16 (of_z w16 (at ps k)) ∷ to_z w16 (of_z w16 (at cc k)) ∷ to_z w16 (of_z w16 (at cs k)) ∷ to_z w16 (of_z w16 (at cp k)) ∷ []) j)) 5) = search rules in
    let o : f' ≡ _ = search rules in
    (rw (kept _ _ a.pitch_square k l, kept _ _ a.pitch k l, kept _ _ a.code_square k l, kept _ _ a.gain k l, kept _ _ a.product k l) at s, o)) _ c.from_fn.ensures.items)
