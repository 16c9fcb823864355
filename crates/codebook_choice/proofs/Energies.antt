-- The energies of a second, a third and a fourth pulse as plain sums: one rounding shift of words by small factors.
use mathlib.Core.Path.{◌≡◌, refl, ap, ◌∙◌}
use mathlib.Core.Bool.{Bool, true, false, ◌&&◌}
use Prim.Native.Nat.{ℕ, ◌+◌, ◌*◌, ◌^◌, ◌<◌, ◌≤◌}
use native.Mathlib.Omega.{arith}
use lib.IntN.{ℤ, pos, negsuc, ◌+ℤ◌, ◌*ℤ◌, *ℤ_comm}
use lib.Dec.{leb}
use lib.Signed.{mag, le_z, shr_z}
use borrow.Author.Tests.{leb-true}
use mir.Syntax.{w16, w32}
use mir.Val.{SFits, to_z, of_z}
use mir.Facts.{to_z-of_z}
use Rattle.fixed.proofs.Bounds.{ok, fits_16_32, shift_fits}
use Rattle.fixed.proofs.Clips.{contradiction}
use Rattle.fixed.specs.Operators.{L_mult, L_mac, L_deposit_h, round}
use Rattle.codebook_choice.proofs.Units.{Within, read, word, within_add, within_scale, within_more, within_mag, within_32, within_16, scale_add, scale_scale, mult_plain, mac_plain, round_14, round_12}

-- a word by a factor, then by a unit
by : (j q : ℕ) (a : ℤ) → pos j *ℤ a *ℤ pos q ≡ a *ℤ pos (q * j)
by j q a = ap (λ (y : ℤ). y *ℤ pos q) (*ℤ_comm (pos j) a) ∙ scale_scale a j q

within_by : (l h j : ℕ) (a : ℤ) → Within l h a → Within (l * j) (h * j) (pos j *ℤ a)
within_by l h j a p = rw (*ℤ_comm (pos j) a) (within_scale l h j a p)

-- twice, four times and sixteen times a word
pub times_fits : (j : ℕ) {a : ℤ} → j ≤ 16 → SFits w16 a → SFits w32 (pos j *ℤ a)
times_fits j {a} l f = within_32 (32768 * j) (32767 * j) (pos j *ℤ a) (within_by 32768 32767 j a (word a f.sfits)) (omega arith) (omega arith)

pub twice_fits : {a : ℤ} → SFits w16 a → SFits w32 (pos 2 *ℤ a)
twice_fits f = times_fits 2 (omega arith) f

-- what locals hold: a word, such a product, a sum
abbrev word_of : ℤ → ℤ
word_of a = to_z w32 (of_z w32 (to_z w16 (of_z w16 a)))

abbrev times_of : ℕ → ℤ → ℤ
times_of j a = to_z w32 (of_z w32 (pos j *ℤ word_of a))

abbrev sum_of : ℤ → ℤ → ℤ
sum_of x y = to_z w32 (of_z w32 (x +ℤ y))

pub read_word : {a : ℤ} → SFits w16 a → word_of a ≡ a
read_word f = read w32 (to_z-of_z f) (fits_16_32 f)

pub times_ok : (j : ℕ) {a : ℤ} → j ≤ 16 → SFits w16 a → SFits w32 (pos j *ℤ word_of a)
times_ok j l f = rw (read_word f) (times_fits j l f)

pub read_times : (j : ℕ) {a : ℤ} → j ≤ 16 → SFits w16 a → times_of j a ≡ pos j *ℤ a
read_times j l f = read w32 (ap (λ (y : ℤ). pos j *ℤ y) (read_word f)) (times_fits j l f)

pub sum_ok : {x y a b : ℤ} → x ≡ a → y ≡ b → SFits w32 (a +ℤ b) → SFits w32 (x +ℤ y)
sum_ok e g f = rw (e, g) f

pub read_sum : {x y a b : ℤ} → x ≡ a → y ≡ b → SFits w32 (a +ℤ b) → sum_of x y ≡ a +ℤ b
read_sum {x} {y} {a} {b} e g f = read w32 {x = x +ℤ y} {y = a +ℤ b} (rw (e, g)) f

-- ---- the sum of a third and of a fourth pulse: the energy so far by q, that of the place, two cross terms by 2
-- four times a word, and sixteen times one that leaves room
pub four_times : (base : ℤ) → mag base < 2 ^ 15 → Within 131072 131068 (pos 4 *ℤ base)
four_times base f = within_by 32768 32767 4 base (word base f)

room : (z : ℤ) → mag z < 18432 → Within 18432 18431 z
room (pos n) h = omega arith
room (negsuc n) h = omega arith

pub sixteen_times : (base : ℤ) → mag base < 18432 → Within 294912 294896 (pos 16 *ℤ base)
sixteen_times base low = within_by 18432 18431 16 base (room base low)

module _ (q l h : ℕ) (base own a b : ℤ) (w : Within l h (pos q *ℤ base)) (g : mag own < 2 ^ 15) (i : mag a < 2 ^ 15) (j : mag b < 2 ^ 15) where
  in_1 : Within (l + 32768) (h + 32767) (pos q *ℤ base +ℤ own)
  in_1 = within_add l h 32768 32767 (pos q *ℤ base) own w (word own g)

  in_2 : Within (l + 32768 + 65536) (h + 32767 + 65534) (pos q *ℤ base +ℤ own +ℤ pos 2 *ℤ a)
  in_2 = within_add (l + 32768) (h + 32767) 65536 65534 (pos q *ℤ base +ℤ own) (pos 2 *ℤ a) in_1 (within_by 32768 32767 2 a (word a i))

  pub in_3 : Within (l + 32768 + 65536 + 65536) (h + 32767 + 65534 + 65534) (pos q *ℤ base +ℤ own +ℤ pos 2 *ℤ a +ℤ pos 2 *ℤ b)
  in_3 = within_add (l + 32768 + 65536) (h + 32767 + 65534) 65536 65534 (pos q *ℤ base +ℤ own +ℤ pos 2 *ℤ a) (pos 2 *ℤ b) in_2 (within_by 32768 32767 2 b (word b j))

-- each addition of the code, and what it leaves
module _ (q l h : ℕ) {base own a b : ℤ} (w : Within l h (pos q *ℤ base)) (small : q ≤ 16) (lm : l ≤ 2 ^ 20) (hm : h ≤ 2 ^ 20)
    (f : SFits w16 base) (g : SFits w16 own) (i : SFits w16 a) (j : SFits w16 b) where
  fits_1 : SFits w32 (pos q *ℤ base +ℤ own)
  fits_1 = within_32 (l + 32768) (h + 32767) (pos q *ℤ base +ℤ own) (in_1 q l h base own a b w g.sfits i.sfits j.sfits) (omega arith) (omega arith)

  fits_2 : SFits w32 (pos q *ℤ base +ℤ own +ℤ pos 2 *ℤ a)
  fits_2 = within_32 (l + 32768 + 65536) (h + 32767 + 65534) (pos q *ℤ base +ℤ own +ℤ pos 2 *ℤ a) (in_2 q l h base own a b w g.sfits i.sfits j.sfits) (omega arith) (omega arith)

  fits_3 : SFits w32 (pos q *ℤ base +ℤ own +ℤ pos 2 *ℤ a +ℤ pos 2 *ℤ b)
  fits_3 =
      within_32 (l + 32768 + 65536 + 65536) (h + 32767 + 65534 + 65534) (pos q *ℤ base +ℤ own +ℤ pos 2 *ℤ a +ℤ pos 2 *ℤ b)
      (in_3 q l h base own a b w g.sfits i.sfits j.sfits) (omega arith) (omega arith)

  pub ok_1 : SFits w32 (times_of q base +ℤ word_of own)
  ok_1 = sum_ok (read_times q small f) (read_word g) fits_1

  read_1 : sum_of (times_of q base) (word_of own) ≡ pos q *ℤ base +ℤ own
  read_1 = read_sum (read_times q small f) (read_word g) fits_1

  pub ok_2 : SFits w32 (sum_of (times_of q base) (word_of own) +ℤ times_of 2 a)
  ok_2 = sum_ok read_1 (read_times 2 (omega arith) i) fits_2

  read_2 : sum_of (sum_of (times_of q base) (word_of own)) (times_of 2 a) ≡ pos q *ℤ base +ℤ own +ℤ pos 2 *ℤ a
  read_2 = read_sum read_1 (read_times 2 (omega arith) i) fits_2

  pub ok_3 : SFits w32 (sum_of (sum_of (times_of q base) (word_of own)) (times_of 2 a) +ℤ times_of 2 b)
  ok_3 = sum_ok read_2 (read_times 2 (omega arith) j) fits_3

  pub read_3 : sum_of (sum_of (sum_of (times_of q base) (word_of own)) (times_of 2 a)) (times_of 2 b) ≡ pos q *ℤ base +ℤ own +ℤ pos 2 *ℤ a +ℤ pos 2 *ℤ b
  read_3 = read_sum read_2 (read_times 2 (omega arith) j) fits_3

-- the sum with the half that rounds, and its sixteenth, which is a word
module _ (l h : ℕ) {x z : ℤ} (e : x ≡ z) (w : Within l h z) (lm : l ≤ 524288) (hm : h + 8 ≤ 524287) where
  half_in : Within l (h + 8) (z +ℤ pos 8)
  half_in = within_more (l + 0) (h + 8) l (h + 8) (z +ℤ pos 8) (within_add l h 0 8 z (pos 8) w (omega arith)) (omega arith) (omega arith)

  half_fits : SFits w32 (z +ℤ pos 8)
  half_fits = within_32 l (h + 8) (z +ℤ pos 8) half_in (omega arith) (omega arith)

  word_fits : SFits w16 (shr_z (z +ℤ pos 8) 16)
  word_fits = ok w16 (shr_z (z +ℤ pos 8) 16) (within_16 (z +ℤ pos 8) (within_more l (h + 8) 524288 524287 (z +ℤ pos 8) half_in lm hm))

  pub half_ok : SFits w32 (x +ℤ pos 8)
  half_ok = sum_ok e refl half_fits

  read_shifted : to_z w32 (of_z w32 (shr_z (sum_of x (pos 8)) 16)) ≡ shr_z (z +ℤ pos 8) 16
  read_shifted = read w32 (ap (λ (y : ℤ). shr_z y 16) (read_sum e refl half_fits)) (shift_fits 16 half_fits)

  pub word_ok : SFits w16 (to_z w32 (of_z w32 (shr_z (sum_of x (pos 8)) 16)))
  word_ok = rw read_shifted word_fits

  pub read_energy : to_z w16 (of_z w16 (to_z w32 (of_z w32 (shr_z (sum_of x (pos 8)) 16)))) ≡ shr_z (z +ℤ pos 8) 16
  read_energy = read w16 read_shifted word_fits

module _ (base own : ℤ) (f : mag base < 2 ^ 15) (g : mag own < 2 ^ 15) where
  wb : Within 32768 32767 base
  wb = word base f

  wo : Within 32768 32767 own
  wo = word own g

  module _ (a : ℤ) (fa : mag a < 2 ^ 15) where
    wa : Within 32768 32767 a
    wa = word a fa

    -- ---- the second: quarters and a half
    pub second_sum : Within 131072 131068 (base +ℤ own +ℤ pos 2 *ℤ a)
    second_sum = within_add 65536 65534 65536 65534 (base +ℤ own) (pos 2 *ℤ a) (within_add 32768 32767 32768 32767 base own wb wo) (within_by 32768 32767 2 a wa)

    pub second_rounded : Within 131072 131070 (base +ℤ own +ℤ pos 2 *ℤ a +ℤ pos 2)
    second_rounded = within_add 131072 131068 0 2 (base +ℤ own +ℤ pos 2 *ℤ a) (pos 2) second_sum (omega arith)

    pub second_plain : round (L_mac (L_mac (L_mult base (pos 8192)) own (pos 8192)) a (pos 16384)) ≡ shr_z (base +ℤ own +ℤ pos 2 *ℤ a +ℤ pos 2) 4
    second_plain =
        let x : ℤ = base +ℤ own +ℤ pos 2 *ℤ a in
        let sb = within_scale 32768 32767 16384 base wb in
        let so = within_scale 32768 32767 16384 own wo in
        let e : x *ℤ pos 16384 ≡ base *ℤ pos 16384 +ℤ own *ℤ pos 16384 +ℤ a *ℤ pos 32768 =
        scale_add 16384 (base +ℤ own) (pos 2 *ℤ a)
        ∙ ap (λ (y : ℤ). y +ℤ pos 2 *ℤ a *ℤ pos 16384) (scale_add 16384 base own)
        ∙ ap (λ (y : ℤ). base *ℤ pos 16384 +ℤ own *ℤ pos 16384 +ℤ y) (by 2 16384 a)
        in
        rw (
          mult_plain base wb 8192 (omega arith),
          mac_plain own wo 8192 (omega arith) (32768 * 16384) (32767 * 16384) (base *ℤ pos 16384) sb (omega arith) (omega arith),
          mac_plain a wa 16384 (omega arith) (32768 * 16384 + 32768 * 16384) (32767 * 16384 + 32767 * 16384) (base *ℤ pos 16384 +ℤ own *ℤ pos 16384)
              (within_add (32768 * 16384) (32767 * 16384) (32768 * 16384) (32767 * 16384) (base *ℤ pos 16384) (own *ℤ pos 16384) sb so) (omega arith) (omega arith),
          ← e,
        )
        (round_14 x (within_mag (131072 * 16384) (131070 * 16384) 31 ((x +ℤ pos 2) *ℤ pos 16384) (within_scale 131072 131070 16384 (x +ℤ pos 2) second_rounded) (omega arith) (omega arith)))

    module _ (b : ℤ) (fb : mag b < 2 ^ 15) where
      w2 : Within 32768 32767 b
      w2 = word b fb

      -- ---- the third: a quarter, a sixteenth and eighths
      third_rounded : Within 294912 294911 (pos 4 *ℤ base +ℤ own +ℤ pos 2 *ℤ a +ℤ pos 2 *ℤ b +ℤ pos 8)
      third_rounded = within_add 294912 294903 0 8 (pos 4 *ℤ base +ℤ own +ℤ pos 2 *ℤ a +ℤ pos 2 *ℤ b) (pos 8) (in_3 4 131072 131068 base own a b (four_times base f) g fa fb) (omega arith)

      pub third_plain :
          round (L_mac (L_mac (L_mac (L_mult base (pos 8192)) own (pos 2048)) a (pos 4096)) b (pos 4096)) ≡ shr_z (pos 4 *ℤ base +ℤ own +ℤ pos 2 *ℤ a +ℤ pos 2 *ℤ b +ℤ pos 8) 16
      third_plain =
          let x : ℤ = pos 4 *ℤ base +ℤ own +ℤ pos 2 *ℤ a +ℤ pos 2 *ℤ b in
          let s0 : ℤ = base *ℤ pos 16384 in
          let s1 : ℤ = s0 +ℤ own *ℤ pos 4096 in
          let s2 : ℤ = s1 +ℤ a *ℤ pos 8192 in
          let r0 : Within 536870912 536854528 s0 = within_scale 32768 32767 16384 base wb in
          let r1 : Within 671088640 671068160 s1 = within_add 536870912 536854528 134217728 134213632 s0 (own *ℤ pos 4096) r0 (within_scale 32768 32767 4096 own wo) in
          let r2 : Within 939524096 939495424 s2 = within_add 671088640 671068160 268435456 268427264 s1 (a *ℤ pos 8192) r1 (within_scale 32768 32767 8192 a wa) in
          let e : x *ℤ pos 4096 ≡ s2 +ℤ b *ℤ pos 8192 =
          scale_add 4096 (pos 4 *ℤ base +ℤ own +ℤ pos 2 *ℤ a) (pos 2 *ℤ b)
          ∙ ap (λ (y : ℤ). y +ℤ pos 2 *ℤ b *ℤ pos 4096)
          (scale_add 4096 (pos 4 *ℤ base +ℤ own) (pos 2 *ℤ a)
          ∙ ap (λ (y : ℤ). y +ℤ pos 2 *ℤ a *ℤ pos 4096) (scale_add 4096 (pos 4 *ℤ base) own ∙ ap (λ (y : ℤ). y +ℤ own *ℤ pos 4096) (by 4 4096 base))
          ∙ ap (λ (y : ℤ). s1 +ℤ y) (by 2 4096 a))
          ∙ ap (λ (y : ℤ). s2 +ℤ y) (by 2 4096 b)
          in
          rw (
            mult_plain base wb 8192 (omega arith),
            mac_plain own wo 2048 (omega arith) 536870912 536854528 s0 r0 (omega arith) (omega arith),
            mac_plain a wa 4096 (omega arith) 671088640 671068160 s1 r1 (omega arith) (omega arith),
            mac_plain b w2 4096 (omega arith) 939524096 939495424 s2 r2 (omega arith) (omega arith),
            ← e,
          )
          (round_12 x (within_mag (294912 * 4096) (294911 * 4096) 31 ((x +ℤ pos 8) *ℤ pos 4096) (within_scale 294912 294911 4096 (x +ℤ pos 8) third_rounded) (omega arith) (omega arith)))

      -- ---- the fourth: the whole energy so far, a sixteenth and eighths
      module _ (c : ℤ) (fc : mag c < 2 ^ 15) (low : mag base < 18432) where
        w3 : Within 32768 32767 c
        w3 = word c fc

        pub fourth_sum : Within 524288 524265 (pos 16 *ℤ base +ℤ own +ℤ pos 2 *ℤ a +ℤ pos 2 *ℤ b +ℤ pos 2 *ℤ c)
        fourth_sum =
            within_add 458752 458731 65536 65534 (pos 16 *ℤ base +ℤ own +ℤ pos 2 *ℤ a +ℤ pos 2 *ℤ b) (pos 2 *ℤ c)
            (in_3 16 294912 294896 base own a b (sixteen_times base low) g fa fb) (within_by 32768 32767 2 c w3)

        fourth_rounded : Within 524288 524273 (pos 16 *ℤ base +ℤ own +ℤ pos 2 *ℤ a +ℤ pos 2 *ℤ b +ℤ pos 2 *ℤ c +ℤ pos 8)
        fourth_rounded = within_add 524288 524265 0 8 (pos 16 *ℤ base +ℤ own +ℤ pos 2 *ℤ a +ℤ pos 2 *ℤ b +ℤ pos 2 *ℤ c) (pos 8) fourth_sum (omega arith)

        pub fourth_plain :
            round (L_mac (L_mac (L_mac (L_mac (L_deposit_h base) own (pos 2048)) a (pos 4096)) b (pos 4096)) c (pos 4096))
            ≡ shr_z (pos 16 *ℤ base +ℤ own +ℤ pos 2 *ℤ a +ℤ pos 2 *ℤ b +ℤ pos 2 *ℤ c +ℤ pos 8) 16
        unfolding L_deposit_h
        fourth_plain =
            let x : ℤ = pos 16 *ℤ base +ℤ own +ℤ pos 2 *ℤ a +ℤ pos 2 *ℤ b +ℤ pos 2 *ℤ c in
            let s0 : ℤ = base *ℤ pos 65536 in
            let s1 : ℤ = s0 +ℤ own *ℤ pos 4096 in
            let s2 : ℤ = s1 +ℤ a *ℤ pos 8192 in
            let s3 : ℤ = s2 +ℤ b *ℤ pos 8192 in
            let r0 : Within 1207959552 1207894016 s0 = within_scale 18432 18431 65536 base (room base low) in
            let r1 : Within 1342177280 1342107648 s1 = within_add 1207959552 1207894016 134217728 134213632 s0 (own *ℤ pos 4096) r0 (within_scale 32768 32767 4096 own wo) in
            let r2 : Within 1610612736 1610534912 s2 = within_add 1342177280 1342107648 268435456 268427264 s1 (a *ℤ pos 8192) r1 (within_scale 32768 32767 8192 a wa) in
            let r3 : Within 1879048192 1878962176 s3 = within_add 1610612736 1610534912 268435456 268427264 s2 (b *ℤ pos 8192) r2 (within_scale 32768 32767 8192 b w2) in
            let e : x *ℤ pos 4096 ≡ s3 +ℤ c *ℤ pos 8192 =
            scale_add 4096 (pos 16 *ℤ base +ℤ own +ℤ pos 2 *ℤ a +ℤ pos 2 *ℤ b) (pos 2 *ℤ c)
            ∙ ap (λ (y : ℤ). y +ℤ pos 2 *ℤ c *ℤ pos 4096)
            (scale_add 4096 (pos 16 *ℤ base +ℤ own +ℤ pos 2 *ℤ a) (pos 2 *ℤ b)
            ∙ ap (λ (y : ℤ). y +ℤ pos 2 *ℤ b *ℤ pos 4096)
            (scale_add 4096 (pos 16 *ℤ base +ℤ own) (pos 2 *ℤ a)
            ∙ ap (λ (y : ℤ). y +ℤ pos 2 *ℤ a *ℤ pos 4096) (scale_add 4096 (pos 16 *ℤ base) own ∙ ap (λ (y : ℤ). y +ℤ own *ℤ pos 4096) (by 16 4096 base))
            ∙ ap (λ (y : ℤ). s1 +ℤ y) (by 2 4096 a))
            ∙ ap (λ (y : ℤ). s2 +ℤ y) (by 2 4096 b))
            ∙ ap (λ (y : ℤ). s3 +ℤ y) (by 2 4096 c)
            in
            rw (
              mac_plain own wo 2048 (omega arith) 1207959552 1207894016 s0 r0 (omega arith) (omega arith),
              mac_plain a wa 4096 (omega arith) 1342177280 1342107648 s1 r1 (omega arith) (omega arith),
              mac_plain b w2 4096 (omega arith) 1610612736 1610534912 s2 r2 (omega arith) (omega arith),
              mac_plain c w3 4096 (omega arith) 1879048192 1878962176 s3 r3 (omega arith) (omega arith),
              ← e,
            )
            (round_12 x (within_mag (524288 * 4096) (524273 * 4096) 31 ((x +ℤ pos 8) *ℤ pos 4096) (within_scale 524288 524273 4096 (x +ℤ pos 8) fourth_rounded) (omega arith) (omega arith)))

-- what the test of an energy tells
pub small_energy : (z : ℤ) → (le_z (negsuc 18431) z && le_z z (pos 18431)) ≡ true → mag z < 18432
small_energy (pos n) e = omega (arith, leb-true n 18431 e)
small_energy (negsuc n) e = go (leb n 18431) refl e
  where
    go : (t : Bool) → leb n 18431 ≡ t → (t && true) ≡ true → n < 18432
    go true q e = omega (arith, leb-true n 18431 q)
    go false q e = contradiction e
