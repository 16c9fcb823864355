-- A point of a straight line lies below both ends' bound; and it is the number that the standard's operators give.
use mathlib.Core.Path.{◌≡◌, refl, sym, ap, ◌∙◌}
use mathlib.Core.Bool.{Bool, true, false}
use Prim.Native.Nat.{ℕ, suc, ◌+◌, ◌-◌, ◌*◌, ◌^◌, ◌<◌, ◌≤◌}
use native.Mathlib.Nat.{mul-le-mul, mul-le-mul_right}
use native.Mathlib.Omega.{arith}
use lib.Dec.{leb}
use lib.IntN.{ℤ, pos, negsuc, neg_ℤ, neg_ℤ-neg_ℤ, ◌+ℤ◌, ◌-ℤ◌, ◌*ℤ◌}
use lib.Signed.{mag}
use borrow.Author.Tests.{leb-true, leb-false}
use Rattle.fixed.specs.Clip.{clip}
use Rattle.fixed.specs.Line.{way, line}
use Rattle.fixed.specs.Operators.{sub, L_sub, L_mult, L_msu, L_deposit_h}
use Rattle.fixed.proofs.Clips.{clip_id}
use Rattle.fixed.proofs.Signs.{pos_sub, sub_above, mag_neg, double_neg}

mean : (k a b v w : ℕ) → a ≤ k → b ≤ k → a * v + b * w ≤ k * (v + w)
mean k a b v w f g = omega (arith, mul-le-mul_right {m = a} {n = k} v f, mul-le-mul_right {m = b} {n = k} w g)

pub line_le : (k a b m : ℕ) → a ≤ k → b ≤ k → line a b m ≤ k * 65536
unfolding line
line_le k a b m f g =
    let e : 32768 - way m + way m ≡ 32768 = omega arith in
    omega (arith, rw e at (mean k a b (32768 - way m) (way m) f g))

-- the line from a to b by its slope, d down or d up, with v and w the two parts of the way
module _ (a b d v w : ℕ) (whole : v + w ≡ 32768) where
  parts : a * 32768 ≡ a * v + a * w
  parts = ap (λ (n : ℕ). a * n) (sym whole) ∙ omega arith

  falls : a ≡ b + d → pos (a * 65536) -ℤ pos (2 * (d * w)) ≡ pos (2 * (a * v + b * w))
  falls e =
      let h : a * w ≡ b * w + d * w = ap (λ (n : ℕ). n * w) e ∙ omega arith in
      pos_sub (a * 65536) (2 * (d * w)) (omega (arith, parts)) ∙ ap pos (omega (arith, parts))

  rises : b ≡ a + d → pos (a * 65536) -ℤ neg_ℤ (pos (2 * (d * w))) ≡ pos (2 * (a * v + b * w))
  rises e =
      let h : b * w ≡ a * w + d * w = ap (λ (n : ℕ). n * w) e ∙ omega arith in
      ap (λ (z : ℤ). pos (a * 65536) +ℤ z) (neg_ℤ-neg_ℤ (pos (2 * (d * w)))) ∙ ap pos (omega (arith, parts))

-- TS 26.073: L_msu (L_deposit_h (from), sub (from, to), way). Nothing is clipped, so it is the point of the line
pub line_standard : (a b m : ℕ) → a ≤ 32767 → b ≤ 32767 → L_msu (L_deposit_h (pos a)) (sub (pos a) (pos b)) (pos (way m)) ≡ pos (line a b m)
unfolding L_msu L_deposit_h L_sub L_mult sub line
line_standard a b m f g = go (leb b a) refl
  where
    w : ℕ
    w = way m

    v : ℕ
    v = 32768 - way m

    whole : v + w ≡ 32768
    whole = omega arith

    narrow : (d : ℕ) → d ≤ 32767 → 2 * (d * w) < 2 ^ 31
    narrow d h = omega (arith, mul-le-mul {n₁ = d} {m₁ = w} {n₂ = 32767} {m₂ = 32767} h (omega arith))

    small : clip 31 (pos (2 * (a * v + b * w))) ≡ pos (2 * (a * v + b * w))
    small = clip_id 31 _ (omega (arith, rw whole at (mean 32767 a b v w f g)))

    -- once the difference is known to be z, a word, and what is taken off y, a long
    finish : (z y : ℤ) → pos a -ℤ pos b ≡ z → mag z < 2 ^ 15 → pos 2 *ℤ (z *ℤ pos w) ≡ y → mag y < 2 ^ 31 → pos (a * 65536) -ℤ y ≡ pos (2 * (a * v + b * w)) →
        clip 31 (pos (a * 65536) -ℤ clip 31 (pos 2 *ℤ (clip 15 (pos a -ℤ pos b) *ℤ pos w))) ≡ pos (2 * (a * v + b * w))
    finish z y d fz p fy e =
        ap (λ (x : ℤ). clip 31 (pos (a * 65536) -ℤ clip 31 (pos 2 *ℤ (x *ℤ pos w)))) (ap (clip 15) d ∙ clip_id 15 z fz)
        ∙ ap (λ (x : ℤ). clip 31 (pos (a * 65536) -ℤ x)) (ap (clip 31) p ∙ clip_id 31 y fy)
        ∙ ap (clip 31) e
        ∙ small

    go : (c : Bool) → leb b a ≡ c → clip 31 (pos (a * 65536) -ℤ clip 31 (pos 2 *ℤ (clip 15 (pos a -ℤ pos b) *ℤ pos w))) ≡ pos (2 * (a * v + b * w))
    go true e =
        let h : b ≤ a = leb-true b a e in
        let d : ℕ = a - b in
        finish (pos d) (pos (2 * (d * w))) (pos_sub a b h) (omega arith) refl (narrow d (omega arith)) (falls a b d v w whole (omega arith))
    go false e =
        let h : a < b = leb-false b a e in
        let k : ℕ = b - suc a in
        let x : ℕ = 2 * (suc k * w) in
        finish (negsuc k) (neg_ℤ (pos x)) (sub_above a b h) (omega arith) (double_neg (suc k * w)) (omega (arith, mag_neg x, narrow (suc k) (omega arith)))
        (rises a b (suc k) v w whole (omega arith))
