-- The basic operators of TS 26.073 (basic_op.h, oper_32b.h) by their names there, each as one number of the integers.
-- `shr_z z m` is floor (z / m), `nat_abs z` is |z|.
use Rattle.std.specs.Prelude.{Bool, ◌||◌, ℕ, zero, suc, ◌-◌, ◌*◌, ◌/◌, ◌%◌, ◌^◌, min, leb, ℤ, pos, negsuc, neg_ℤ, nat_abs, ◌+ℤ◌, ◌-ℤ◌, ◌*ℤ◌}
use Rattle.std.specs.Int.Count.{count_leading_zeros}
use Rattle.std.specs.Int.Signed.{mag, shr_z}
use Rattle.fixed.specs.Clip.{clip}
use Rattle.fixed.specs.declared.Halves.{Halves}
use Rattle.fixed.specs.declared.Flagged.{Flagged}

-- ---- words: sum, difference, sign changed, magnitude
unfoldable pub add : ℤ → ℤ → ℤ
add a b = clip 15 (a +ℤ b)

unfoldable pub sub : ℤ → ℤ → ℤ
sub a b = clip 15 (a -ℤ b)

unfoldable pub negate : ℤ → ℤ
negate a = clip 15 (neg_ℤ a)

unfoldable pub abs_s : ℤ → ℤ
abs_s a = clip 15 (pos (nat_abs a))

-- ---- longs: the same
unfoldable pub L_add : ℤ → ℤ → ℤ
L_add a b = clip 31 (a +ℤ b)

unfoldable pub L_sub : ℤ → ℤ → ℤ
L_sub a b = clip 31 (a -ℤ b)

unfoldable pub L_negate : ℤ → ℤ
L_negate a = clip 31 (neg_ℤ a)

unfoldable pub L_abs : ℤ → ℤ
L_abs a = clip 31 (pos (nat_abs a))

-- ---- the doubled product of two words, a long, and its accumulation
unfoldable pub L_mult : ℤ → ℤ → ℤ
L_mult a b = clip 31 (pos 2 *ℤ (a *ℤ b))

unfoldable pub L_mac : ℤ → ℤ → ℤ → ℤ
L_mac s a b = L_add s (L_mult a b)

unfoldable pub L_msu : ℤ → ℤ → ℤ → ℤ
L_msu s a b = L_sub s (L_mult a b)

-- ---- the standard's Overflow: whether a value lies past the ends of its type, so that it is clipped; and whether L_mac sets it
abbrev pub beyond : ℕ → ℤ → Bool
beyond k z = leb (2 ^ k) (mag z)

unfoldable pub L_mac_overflow : ℤ → ℤ → ℤ → Bool
L_mac_overflow s a b = beyond 31 (pos 2 *ℤ (a *ℤ b)) || beyond 31 (s +ℤ L_mult a b)

-- the sum with it
unfoldable pub L_mac_flagged : ℤ → ℤ → ℤ → Flagged
L_mac_flagged s a b = record { value = L_mac s a b; overflow = L_mac_overflow s a b }

-- ---- the Q15 product of two words: floor, then clip
unfoldable pub mult : ℤ → ℤ → ℤ
mult a b = clip 15 (shr_z (a *ℤ b) (2 ^ 15))

-- ---- words of a long: the high one, the high one rounded, the low 16 bits read as signed; and a word as the high one
unfoldable pub extract_h : ℤ → ℤ
extract_h v = shr_z v (2 ^ 16)

unfoldable pub round : ℤ → ℤ
round v = extract_h (L_add v (pos 32768))

-- the remainder of z by m, from 0 to m - 1
abbrev pub remainder : ℤ → ℕ → ℕ
remainder (pos n) m = n % m
remainder (negsuc n) m = m - 1 - n % m

-- the number from -32768 to 32767 that differs from v by a multiple of 65536
unfoldable pub extract_l : ℤ → ℤ
extract_l v = pos (remainder (v +ℤ pos 32768) 65536) -ℤ pos 32768

unfoldable pub L_deposit_h : ℤ → ℤ
L_deposit_h v = v *ℤ pos 65536

-- ---- a long as a high word and the 15 bits below it (L_Extract), and products by these halves
unfoldable pub low_half : ℤ → ℤ
low_half v = shr_z v 2 -ℤ extract_h v *ℤ pos 32768

unfoldable pub L_Extract : ℤ → Halves
L_Extract v = record { high = extract_h v; low = low_half v }

unfoldable pub Mpy_32 : ℤ → ℤ → ℤ
Mpy_32 a b =
    L_mac (L_mac (L_mult (extract_h a) (extract_h b)) (mult (extract_h a) (low_half b)) (pos 1))
    (mult (low_half a) (extract_h b)) (pos 1)

unfoldable pub Mpy_32_16 : ℤ → ℤ → ℤ
Mpy_32_16 a n = L_mac (L_mult (extract_h a) n) (mult (low_half a) n) (pos 1)

-- ---- shifts by any signed count, for every width: to the left with clipping, to the right with floor
-- (a count past the width, which the Rust holds at 31 or 15, gives what the held count gives)
unfoldable pub shift_at : ℕ → ℤ → ℤ → ℤ
shift_at k v (pos n) = clip k (v *ℤ pos (2 ^ n))
shift_at k v (negsuc n) = shr_z v (2 ^ suc n)

abbrev pub L_shl : ℤ → ℤ → ℤ
L_shl v n = shift_at 31 v n

abbrev pub shl : ℤ → ℤ → ℤ
shl v n = shift_at 15 v n

-- ---- `v & !1`: the lowest bit cleared
unfoldable pub even_bits : ℤ → ℤ
even_bits v = shr_z v 2 *ℤ pos 2

-- ---- how far a long can be shifted to the left before its highest bit is its sign (norm_l); 0 for 0, 31 for -1
unfoldable pub norm_l : ℤ → ℕ
norm_l (pos zero) = 0
norm_l (pos (suc n)) = count_leading_zeros 32 (suc n) - 1
norm_l (negsuc n) = count_leading_zeros 32 n - 1

-- a positive number so shifted, and the exponent of its highest bit, 0 to 30
abbrev pub normal : ℕ → ℕ
normal n = n * 2 ^ norm_l (pos n)

abbrev pub exponent : ℕ → ℕ
exponent n = 30 - norm_l (pos n)

-- f of a positive number; a for 0 and below, which have no logarithm and no root
abbrev pub positive_or : {A : Type 0} → A → (ℕ → A) → ℤ → A
positive_or a f (pos zero) = a
positive_or a f (pos (suc n)) = f (suc n)
positive_or a f (negsuc n) = a

-- ---- the quotient a / b in Q15 (div_s, for 0 <= a <= b, 0 < b: 32767 where a = b). Outside: 32767 where a is above b, 0 where a or b has no place there
unfoldable pub div_s : ℤ → ℤ → ℤ
div_s (pos a) (pos (suc b)) = pos (min (a * 32768 / suc b) 32767)
div_s (pos a) (pos zero) = pos 0
div_s (pos a) (negsuc b) = pos 0
div_s (negsuc a) b = pos 0
