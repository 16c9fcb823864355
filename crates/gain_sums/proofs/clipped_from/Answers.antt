use mathlib.Core.Path.{◌≡◌, ap, ◌∙◌}
use mathlib.Core.Bool.{Bool, cond, not}
use mathlib.Core.List.{List}
use Prim.Native.Nat.{ℕ, suc, ◌*◌, ◌+◌, ◌-◌, ◌^◌, ◌<◌, ◌≤◌}
use native.Mathlib.Omega.{arith}
use lib.Dec.{eqb, ltb}
use lib.IntN.{ℤ, nat_abs, pos}
use lib.ListN.{length, take, drop, length-take, length-drop}
use borrow.Author.Rules.{rules}
use mir.Syntax.{w16}
use mir.Val.{SFits, of_z, bool_byte}
use Rattle.std.proofs.lemmas.List.{get_or-take, get_or-drop}
use Rattle.fixed.specs.Lists.{at}
use Rattle.sums.specs.Plain.{squared}
use Rattle.sums.proofs.Quiet.{squared_more}
use Rattle.gain_sums.specs.Sums.{clips as clips_of}
use Rattle.gain_sums.proofs.Counts.{clips_le, bit_is, byte_fits}
use Rattle.gain_sums.proofs.Squares.{loud_squares, not_zero}
use Rattle.gain_sums.proofs.clipped_from.Goals as goal

-- a place of the list's end
part : (a j : ℕ) (xs : List ℤ) → length xs ≡ 40 → j < length (take (40 - a) (drop a xs)) → (a + j < 40) × (at (take (40 - a) (drop a xs)) j ≡ at xs (a + j))
part a j xs e h =
    let n : a + j < 40 = omega (arith, e, simp (length-take, length-drop) at h) in
    (n, get_or-take (40 - a) (drop a xs) j (pos 0) (omega arith) ∙ get_or-drop a xs j (pos 0))

pub overflow_add-clips : goal.overflow_add-clips
overflow_add-clips c =
    let first = c.args.first in
    let j = c.loop-word.word-index in
    byte_fits {i = first + j} _ (rw c.loop-word.invariant (clips_le c.args.words.now c.args.words.now (first + j)))
    (part first j c.args.words.now c.told-words c.loop-word-test.true).0

pub loop-word-preserved : goal.loop-word-preserved
loop-word-preserved c =
    let xs = c.args.words.now in
    let first = c.args.first in
    let j = c.loop-word.word-index in
    let i = first + j in
    let p = part first j xs c.told-words c.loop-word-test.true in
    let m : squared (at xs) (suc first) ≤ squared (at xs) (suc first + j) = squared_more (at xs) (suc first) j in
    let s : suc first + j ≡ suc i = omega arith in
    let h : 2 ^ 30 ≤ squared (at xs) (suc i) = omega (arith, c.requires.1, rw s at m) in
    let f : SFits w16 (at xs i) = search rules in
    let b : bool_byte (not (eqb (of_z w16 (at xs i)) 0)) ≡ cond (ltb 0 (nat_abs (at xs i) * nat_abs (at xs i))) 1 0 =
    bit_is (not (eqb (of_z w16 (at xs i)) 0)) ∙ ap (λ (t : Bool). cond t 1 0) (not_zero f)
    in
    let e : first + (j + 1) ≡ suc i = omega arith in
    rw (e, loud_squares xs i h, c.loop-word.invariant, p.1) (ap (λ (n : ℕ). clips_of xs xs i + n) b)
