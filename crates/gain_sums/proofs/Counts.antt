-- 02, request 09: the laws of the count of clipped terms, and its examples computed.
use mathlib.Core.Path.{◌≡◌, refl, sym, subst, ◌∙◌}
use mathlib.Core.Bool.{Bool, true, false, cond, ◌||◌}
use mathlib.Core.List.{List, [], ◌∷◌}
use Prim.Native.Nat.{ℕ, zero, suc, ◌+◌, ◌^◌, ◌<◌, ◌≤◌}
use native.Mathlib.Omega.{arith}
use lib.Dec.{ltb}
use lib.IntN.{ℤ, pos, negsuc, ◌+ℤ◌, ◌*ℤ◌, +ℤ_idr}
use lib.ListN.{replicate}
use lib.Signed.{mag}
use mir.Syntax.{w8}
use mir.Val.{Fits, bool_byte}
use borrow.Author.Tests.{lt-leb, lt-ltb, leb-false, ltb-false}
use Rattle.fixed.specs.Clip.{clip}
use Rattle.fixed.specs.Operators.{L_add, L_mult, L_mac, L_mac_overflow, beyond}
use Rattle.fixed.specs.Lists.{at, L_sum}
use Rattle.fixed.proofs.Clips.{clip_fits, clip_id, contradiction}
use Rattle.gain_sums.specs.declared.Counted.{Counted}
use Rattle.gain_sums.specs.Sums.{sum, overflow, flagged_sum, clips, counted_sum}
use Rattle.gain_sums.specs.Opens.{gain_sums_opens}
use Rattle.gain_sums.specs.Statement.{Unclipped, EveryCount, Examples}

-- ---- a value past an end of its type is one that holding changes
kept : (k : ℕ) (z : ℤ) → beyond k z ≡ false → clip k z ≡ z
kept k z e = clip_id k z (leb-false (2 ^ k) (mag z) e)

within : (k : ℕ) (z : ℤ) → clip k z ≡ z → beyond k z ≡ false
within k z e = lt-leb (2 ^ k) (mag z) (subst (λ (v : ℤ). mag v < 2 ^ k) e (clip_fits k z))

-- the two tests of a term, and what they say
neither : (a b : Bool) → a || b ≡ false → (a ≡ false) × (b ≡ false)
neither false b e = (refl, e)
neither true b e = contradiction (sym e)

unclipped : (s a b : ℤ) → L_mac_overflow s a b ≡ false → Unclipped s a b
unfolding L_mac_overflow L_mult L_mac L_add
unclipped s a b e =
    let p = neither (beyond 31 (pos 2 *ℤ (a *ℤ b))) (beyond 31 (s +ℤ L_mult a b)) e in
    record { product = kept 31 (pos 2 *ℤ (a *ℤ b)) p.0; sum = kept 31 (s +ℤ L_mult a b) p.1 }

no_flag : (s a b : ℤ) → Unclipped s a b → L_mac_overflow s a b ≡ false
unfolding L_mac_overflow L_mult L_mac L_add
no_flag s a b u = rw (within 31 (pos 2 *ℤ (a *ℤ b)) u.product, within 31 (s +ℤ L_mult a b) u.sum) refl

-- ---- the count
module _ (xs ys : List ℤ) where
  abbrev flag_of : ℕ → Bool
  flag_of n = L_mac_overflow (sum xs ys n) (at xs n) (at ys n)

  pub clips_le : (n : ℕ) → clips xs ys n ≤ n
  unfolding clips
  clips_le zero = omega arith
  clips_le (suc n) = go (clips xs ys n) (clips_le n) (flag_of n)
    where
      go : (c : ℕ) → c ≤ n → (t : Bool) → c + cond t 1 0 ≤ suc n
      go c h true = omega arith
      go c h false = omega arith

  pub flag_is : (n : ℕ) → overflow xs ys n ≡ ltb 0 (clips xs ys n)
  unfolding clips overflow
  flag_is zero = refl
  flag_is (suc n) = rw (flag_is n) (go (clips xs ys n) (flag_of n))
    where
      go : (c : ℕ) (t : Bool) → ltb 0 c || t ≡ ltb 0 (c + cond t 1 0)
      go zero true = refl
      go zero false = refl
      go (suc c) true = rw (lt-ltb 0 (suc c) (omega arith), lt-ltb 0 (suc c + 1) (omega arith))
      go (suc c) false = rw (lt-ltb 0 (suc c) (omega arith), lt-ltb 0 (suc c + 0) (omega arith))

  -- where nothing overflows the count is 0
  pub no_clips : (n : ℕ) → overflow xs ys n ≡ false → clips xs ys n ≡ 0
  no_clips n e = let f : ltb 0 (clips xs ys n) ≡ false = sym (flag_is n) ∙ e in omega (arith, ltb-false 0 (clips xs ys n) f)

  -- a sum is a long
  sum_fits : (n : ℕ) → mag (sum xs ys n) < 2 ^ 31
  unfolding sum L_sum L_add
  sum_fits zero = omega arith
  sum_fits (suc n) = clip_fits 31 (sum xs ys n +ℤ L_mult (at xs n) (at ys n))

  not_counted : (n : ℕ) → Unclipped (sum xs ys n) (at xs n) (at ys n) → clips xs ys (suc n) ≡ clips xs ys n
  unfolding clips
  not_counted n u = rw (no_flag (sum xs ys n) (at xs n) (at ys n) u) (omega arith)

  counted : (n : ℕ) → (Unclipped (sum xs ys n) (at xs n) (at ys n) → ⊥) → clips xs ys (suc n) ≡ suc (clips xs ys n)
  unfolding clips
  counted n changed = go (flag_of n) refl
    where
      go : (t : Bool) → flag_of n ≡ t → clips xs ys n + cond t 1 0 ≡ suc (clips xs ys n)
      go true e = omega arith
      go false e = absurd (changed (unclipped (sum xs ys n) (at xs n) (at ys n) e))

  zero_term : (n : ℕ) → at xs n *ℤ at ys n ≡ pos 0 → Unclipped (sum xs ys n) (at xs n) (at ys n)
  unfolding L_mult L_mac L_add
  zero_term n e = record { product = rw e refl; sum = rw (e, +ℤ_idr (sum xs ys n)) (clip_id 31 (sum xs ys n) (sum_fits n)) }

pub every_count : EveryCount
unfolding EveryCount
every_count xs ys n =
    record {
      at_most = clips_le xs ys n;
      flag = flag_is xs ys n;
      counted = counted xs ys n;
      not_counted = not_counted xs ys n;
      zero_term = λ e. not_counted xs ys n (zero_term xs ys n e);
    }

-- the sum with its flag, of an answer with value and count
pub told_flagged : (xs ys : List ℤ) (n : ℕ) (r : Counted) → r ≡ counted_sum xs ys n → record { value = r.value; overflow = ltb 0 r.clips } ≡ flagged_sum xs ys n
unfolding counted_sum flagged_sum
told_flagged xs ys n r e = rw (e, flag_is xs ys n)

-- a test as a byte
pub bit_is : (t : Bool) → bool_byte t ≡ cond t 1 0
bit_is true = refl
bit_is false = refl

-- a count of i terms at most, and one more, is a byte
pub byte_fits : {i c : ℕ} (t : Bool) → c ≤ i → i < 40 → Fits w8 (c + bool_byte t)
byte_fits true l h = record { fits = omega arith }
byte_fits false l h = record { fits = omega arith }

-- ---- the examples, a declaration each
once : clips (negsuc 32767 ∷ []) (negsuc 32767 ∷ []) 40 ≡ 1
unfolding gain_sums_opens
once = refl

always : clips (replicate 40 (negsuc 32767)) (replicate 40 (negsuc 32767)) 40 ≡ 40
unfolding gain_sums_opens
always = refl

end_reached : sum (pos 32767 ∷ pos 32767 ∷ []) (pos 32767 ∷ pos 2 ∷ []) 40 ≡ pos 2147483647
unfolding gain_sums_opens
end_reached = refl

at_the_end : clips (pos 32767 ∷ pos 32767 ∷ []) (pos 32767 ∷ pos 2 ∷ []) 40 ≡ 0
unfolding gain_sums_opens
at_the_end = refl

back : clips (negsuc 32767 ∷ negsuc 0 ∷ pos 1 ∷ pos 1 ∷ []) (negsuc 32767 ∷ pos 1 ∷ pos 1 ∷ pos 1 ∷ []) 40 ≡ 2
unfolding gain_sums_opens
back = refl

both_ends : clips (replicate 4 (negsuc 32767)) (negsuc 32767 ∷ replicate 3 (pos 32767)) 40 ≡ 2
unfolding gain_sums_opens
both_ends = refl

pub examples : Examples
unfolding Examples
examples = (once, always, end_reached, at_the_end, back, both_ends)
