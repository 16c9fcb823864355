-- The words of an update, and the correlations that a search asks for.
use mathlib.Core.Path.{◌≡◌, refl, ap, ◌∙◌}
use mathlib.Core.Bool.{Bool, true, false, cond, ◌&&◌}
use mathlib.Core.List.{List}
use Prim.Native.Nat.{ℕ, zero, suc, ◌+◌, ◌-◌, ◌≤◌, ◌<◌, min}
use native.Mathlib.Omega.{arith}
use lib.IntN.{ℤ, pos}
use lib.Dec.{eqb, leb, ltb}
use lib.ListN.{length, take, drop, replicate}
use Rattle.std.proofs.lemmas.List.{length-take-le, length-drop, get_or-take, get_or-drop}
use Rattle.fixed.specs.Operators.{add, L_mult, L_shl, extract_h}
use Rattle.fixed.specs.Lists.{at, part, copied, between}
use Rattle.fixed.proofs.Lists.{filled_all, copied_whole}
use borrow.Author.Tests.{eq-eqb, le-leb, lt-ltb, eqb-true, leb-true, ltb-true}
use Rattle.pitch_correlation.specs.Correlations.{update_at, correlations, Norm_Corr}

-- the shift of a filter is never held
pub shift_held : (l : Bool) → min (cond l 1 3) 15 ≡ cond l 1 3
shift_held true = refl
shift_held false = refl

-- the words one place on, behind a 0
abbrev pub moved_at : List ℤ → ℕ → ℤ
moved_at fs = between (λ j. at fs (j - 1)) (λ j. pos 0) 1 40

-- every place filtered alike, the first too
abbrev pub alike_at : Bool → List ℤ → ℤ → List ℤ → ℕ → ℤ
alike_at l hs sample fs k = add (extract_h (L_shl (L_mult sample (at hs k)) (pos (cond l 1 3)))) (moved_at fs k)

-- a word of an update past the first
pub update_suc : (l : Bool) (hs : List ℤ) (sample : ℤ) (fs : List ℤ) (j : ℕ) → 1 ≤ j →
    update_at l hs sample fs j ≡ add (extract_h (L_shl (L_mult sample (at hs j)) (pos (cond l 1 3)))) (at fs (j - 1))
unfolding update_at
update_suc l hs sample fs zero h = absurd (omega arith)
update_suc l hs sample fs (suc j) h =
    let e : j ≡ suc j - 1 = omega arith in
    ap (λ (k : ℕ). add (extract_h (L_shl (L_mult sample (at hs (suc j))) (pos (cond l 1 3)))) (at fs k)) e

-- it is the word that is filtered like all others
pub update_past : (l : Bool) (hs : List ℤ) (sample : ℤ) (fs : List ℤ) (k : ℕ) → 1 ≤ k → k < 40 → alike_at l hs sample fs k ≡ update_at l hs sample fs k
update_past l hs sample fs k h b = rw (update_suc l hs sample fs k h, le-leb 1 k h, lt-ltb k 40 b)

-- 40 words of a list, from a place on
pub forty_cut : (xs : List ℤ) (from : ℕ) → from + 40 ≤ length xs → copied (take (from + 40 - from) (drop from xs)) (replicate 40 (pos 0)) ≡ part xs from 40
unfolding part
forty_cut xs from h =
    let e : from + 40 - from ≡ 40 = omega arith in
    let l : length (take 40 (drop from xs)) ≡ 40 = length-take-le 40 (drop from xs) (omega (arith, length-drop from xs)) in
    rw (e, copied_whole 40 (take 40 (drop from xs)) (replicate 40 (pos 0)) l refl)
    (filled_all (λ k. at xs (from + k)) (pos 0) 40 (take 40 (drop from xs)) l (λ k b. get_or-take 40 (drop from xs) k (pos 0) b ∙ get_or-drop from xs k (pos 0)))

-- so asked, it is answered
pub norm_corr : (exc target hs : List ℤ) (low end : ℕ) → length exc ≡ 194 → length target ≡ 40 → length hs ≡ 40 → low < end → end ≤ 148 →
    Norm_Corr exc target hs low end ≡ correlations exc target hs low end
unfolding Norm_Corr
norm_corr exc target hs low end e t h l b = rw (eq-eqb (length exc) 194 e, eq-eqb (length target) 40 t, eq-eqb (length hs) 40 h, lt-ltb low end l, le-leb end 148 b)

-- not so asked, it is all 0
pub unasked : (exc target hs : List ℤ) (low end : ℕ) → ((length exc ≡ 194) × (length target ≡ 40) × (length hs ≡ 40) × (low < end) × (end ≤ 148) → ⊥) →
    replicate 148 (pos 0) ≡ Norm_Corr exc target hs low end
unfolding Norm_Corr
unasked exc target hs low end never =
    go (eqb (length exc) 194) refl (eqb (length target) 40) refl (eqb (length hs) 40) refl (ltb low end) refl (leb end 148) refl
  where
    go : (a : Bool) → eqb (length exc) 194 ≡ a → (b : Bool) → eqb (length target) 40 ≡ b → (c : Bool) → eqb (length hs) 40 ≡ c → (d : Bool) → ltb low end ≡ d →
        (e : Bool) → leb end 148 ≡ e → replicate 148 (pos 0) ≡ cond (a && b && c && d && e) (correlations exc target hs low end) (replicate 148 (pos 0))
    go true p true q true r true s true t =
        absurd (never (eqb-true (length exc) 194 p, eqb-true (length target) 40 q, eqb-true (length hs) 40 r, ltb-true low end s, leb-true end 148 t))
    go true p true q true r true s false t = refl
    go true p true q true r false s e t = refl
    go true p true q false r d s e t = refl
    go true p false q c r d s e t = refl
    go false p b q c r d s e t = refl
