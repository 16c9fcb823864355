-- What is written into the two words is read back.
use mathlib.Core.Path.{◌≡◌, refl}
use mathlib.Core.Bool.{Bool, true, false, cond}
use mathlib.Core.List.{List}
use Prim.Native.Nat.{ℕ, zero, suc, ◌+◌, ◌-◌, ◌*◌, ◌/◌, ◌%◌, ◌^◌, ◌≤◌, ◌<◌}
use native.Mathlib.Omega.{arith}
use lib.Dec.{T, leb, eqb, ltb, ltb→lt, eqb→eq}
use lib.IntN.{ℤ, pos, negsuc}
use lib.ListN.{length, get_or, length-set, get_or-eq_default}
use Rattle.fixed.proofs.Bounds.{either}
use Rattle.fixed.proofs.Clips.{contradiction}
use Rattle.fixed.proofs.Tables.{both, both_left, both_right, at}
use borrow.Author.Tests.{eq-eqb, leb-true, ltb-true, ltb-false}
use Rattle.refusal.specs.Refused.{accepts}
use Rattle.refusal.specs.Checks.{Outcome}
use Rattle.codebook.specs.declared.Places.{Places}
use Rattle.codebook.specs.Gray.{gray, dgray}
use Rattle.codebook.specs.Words.{number_of, in_track, position_bits, slot, sign_bit}
use Rattle.codebook.specs.Readers.{place_of, places_of, pulse_of, decode}

-- ---- the two tables undo each other, by one test over the whole of them
-- a number x at place k of the one, y at place k of the other: both below 8, and each table takes the other's number back to k
inverse : ℕ → ℕ → ℕ → Bool
inverse k x y = both (both (ltb x 8) (ltb y 8)) (both (eqb (get_or dgray x 0) k) (eqb (get_or gray y 0) k))

at_place : ℕ → ℕ → Bool
at_place k x = inverse k x (get_or dgray k 0)

facts : (k x y : ℕ) → T (inverse k x y) → (x < 8) × (y < 8) × (get_or dgray x 0 ≡ k) × (get_or gray y 0 ≡ k)
unfolding inverse
facts k x y t =
    let below = both_left (both (ltb x 8) (ltb y 8)) (both (eqb (get_or dgray x 0) k) (eqb (get_or gray y 0) k)) t in
    let back = both_right (both (ltb x 8) (ltb y 8)) (both (eqb (get_or dgray x 0) k) (eqb (get_or gray y 0) k)) t in (
      ltb→lt x 8 (both_left (ltb x 8) (ltb y 8) below),
      ltb→lt y 8 (both_right (ltb x 8) (ltb y 8) below),
      eqb→eq (get_or dgray x 0) k (both_left (eqb (get_or dgray x 0) k) (eqb (get_or gray y 0) k) back),
      eqb→eq (get_or gray y 0) k (both_right (eqb (get_or dgray x 0) k) (eqb (get_or gray y 0) k) back),
    )

module _ (k : ℕ) (h : k < 8) where
  tested : T (at_place k (get_or gray k 0))
  unfolding at_place inverse gray dgray
  tested = at 0 at_place gray tt k h

  all_facts : (get_or gray k 0 < 8) × (get_or dgray k 0 < 8) × (get_or dgray (get_or gray k 0) 0 ≡ k) × (get_or gray (get_or dgray k 0) 0 ≡ k)
  unfolding at_place
  all_facts = facts k (get_or gray k 0) (get_or dgray k 0) tested

  pub gray_lt : get_or gray k 0 < 8
  gray_lt = all_facts.0

  pub dgray_lt : get_or dgray k 0 < 8
  dgray_lt = all_facts.1

  pub dgray_gray : get_or dgray (get_or gray k 0) 0 ≡ k
  dgray_gray = all_facts.2

  pub gray_dgray : get_or gray (get_or dgray k 0) 0 ≡ k
  gray_dgray = all_facts.3

-- the Gray number of a place has three bits, and so what it adds to the position word is at most 7 * 1024 + 512
pub number_lt : (place : ℕ) → number_of place < 8
unfolding gray
number_lt place = go (ltb (place / 5) 8) refl
  where
    go : (t : Bool) → ltb (place / 5) 8 ≡ t → number_of place < 8
    go true q = gray_lt (place / 5) (ltb-true (place / 5) 8 q)
    go false q = let l = ltb-false (place / 5) 8 q in rw (get_or-eq_default gray 0 {n = place / 5} l) (omega arith)

in_track_le : (track number : ℕ) → number < 8 → in_track track number ≤ 7680
unfolding in_track
in_track_le zero number h = omega arith
in_track_le (suc zero) number h = omega arith
in_track_le (suc (suc zero)) number h = omega arith
in_track_le (suc (suc (suc zero))) number h = omega arith
in_track_le (suc (suc (suc (suc track)))) number h = omega arith

pub position_bits_le : (place : ℕ) → position_bits place ≤ 7680
position_bits_le place = in_track_le (place % 5) (number_of place) (number_lt place)

-- a place that is read is one of the 40
pub place_lt : (bits track : ℕ) → track < 5 → place_of bits track < 40
place_lt bits track h = omega (arith, dgray_lt (bits % 8) (omega arith))

-- ---- positions
-- in track 3 or 4
last_bits : (track number : ℕ) → 3 ≤ track → track < 5 → in_track track number ≡ number * 1024 + (track - 3) * 512
unfolding in_track
last_bits zero number h l = absurd (omega arith)
last_bits (suc zero) number h l = absurd (omega arith)
last_bits (suc (suc zero)) number h l = absurd (omega arith)
last_bits (suc (suc (suc zero))) number h l = omega arith
last_bits (suc (suc (suc (suc zero)))) number h l = omega arith
last_bits (suc (suc (suc (suc (suc track))))) number h l = absurd (omega arith)

-- the number of a place is read back
place_back : (place bits track : ℕ) → place < 40 → place % 5 ≡ track → bits % 8 ≡ number_of place → place_of bits track ≡ place
place_back place bits track h t e = rw (e, dgray_gray (place / 5) (omega arith)) (omega arith)

-- the word's five fields, each read
word : ℕ → ℕ → ℕ → ℕ → ℕ → ℕ
word a b c l d = a + b * 8 + c * 64 + (d * 1024 + l * 512)

module _ (a b c l d : ℕ) (ha : a < 8) (hb : b < 8) (hc : c < 8) (hl : l < 2) where
  field_0 : word a b c l d % 8 ≡ a
  unfolding word
  field_0 = omega arith

  field_1 : word a b c l d / 8 % 8 ≡ b
  unfolding word
  field_1 = let e : word a b c l d / 8 ≡ b + (c * 8 + d * 128 + l * 64) = omega arith in rw e (omega arith)

  field_2 : word a b c l d / 64 % 8 ≡ c
  unfolding word
  field_2 = let e : word a b c l d / 64 ≡ c + (d * 16 + l * 8) = omega arith in rw e (omega arith)

  field_3 : word a b c l d / 512 % 2 ≡ l
  unfolding word
  field_3 = let e : word a b c l d / 512 ≡ l + d * 2 = omega arith in rw e (omega arith)

  field_4 : d < 8 → word a b c l d / 1024 % 8 ≡ d
  unfolding word
  field_4 h = let e : word a b c l d / 1024 ≡ d = omega arith in rw e (omega arith)

-- a place in each of tracks 0, 1, 2 and in 3 or 4: the position word stays below 8192, and the four are read back
module _ (p q r s : ℕ) (hp : p < 40) (hq : q < 40) (hr : r < 40) (hs : s < 40) (tp : p % 5 ≡ 0) (tq : q % 5 ≡ 1) (tr : r % 5 ≡ 2) (ts : 3 ≤ s % 5) where
  of_places : ℕ
  of_places = position_bits p + position_bits q + position_bits r + position_bits s

  written : of_places ≡ word (number_of p) (number_of q) (number_of r) (s % 5 - 3) (number_of s)
  unfolding of_places in_track word
  written = rw (tp, tq, tr, last_bits (s % 5) (number_of s) ts (omega arith))

  pub positions_fit : position_bits p + position_bits q + position_bits r + position_bits s ≤ 8191
  unfolding of_places word
  positions_fit =
      rw written
      (omega (arith, gray_lt (p / 5) (omega arith), gray_lt (q / 5) (omega arith), gray_lt (r / 5) (omega arith), gray_lt (s / 5) (omega arith)))

  pub positions_back : places_of (position_bits p + position_bits q + position_bits r + position_bits s) ≡ record { first = p; second = q; third = r; last = s }
  unfolding of_places
  positions_back =
      let a = gray_lt (p / 5) (omega arith) in
      let b = gray_lt (q / 5) (omega arith) in
      let c = gray_lt (r / 5) (omega arith) in
      let d = gray_lt (s / 5) (omega arith) in
      let l : s % 5 - 3 < 2 = omega arith in
      let t : 3 + of_places / 512 % 2 ≡ s % 5 = rw (written, field_3 (number_of p) (number_of q) (number_of r) (s % 5 - 3) (number_of s) a b c l) (omega arith) in
      let e0 : place_of of_places 0 ≡ p = place_back p of_places 0 hp tp (rw written (field_0 (number_of p) (number_of q) (number_of r) (s % 5 - 3) (number_of s) a b c l)) in
      let e1 : place_of (of_places / 8) 1 ≡ q = place_back q (of_places / 8) 1 hq tq (rw written (field_1 (number_of p) (number_of q) (number_of r) (s % 5 - 3) (number_of s) a b c l)) in
      let e2 : place_of (of_places / 64) 2 ≡ r = place_back r (of_places / 64) 2 hr tr (rw written (field_2 (number_of p) (number_of q) (number_of r) (s % 5 - 3) (number_of s) a b c l)) in
      let e3 : place_of (of_places / 1024) (s % 5) ≡ s = place_back s (of_places / 1024) (s % 5) hs refl (rw written (field_4 (number_of p) (number_of q) (number_of r) (s % 5 - 3) (number_of s) a b c l d)) in
      rw (t, e0, e1, e2, e3)

-- ---- signs
-- a truth value as a bit
abbrev bit : Bool → ℕ
bit b = cond b 1 0

bit_lt : (b : Bool) → bit b ≤ 1
bit_lt true = omega arith
bit_lt false = omega arith

bit_back : (b : Bool) (bits : ℕ) → bits % 2 ≡ bit b → pulse_of bits ≡ cond b (pos 8191) (negsuc 8191)
bit_back true bits e = rw e
bit_back false bits e = rw e

-- in any slot
pub sign_bit_le : (b : Bool) (place : ℕ) → sign_bit b place ≤ 8
sign_bit_le true place = go (slot place) (omega arith)
  where
    go : (k : ℕ) → k ≤ 3 → 2 ^ k ≤ 8
    go zero h = omega arith
    go (suc zero) h = omega arith
    go (suc (suc zero)) h = omega arith
    go (suc (suc (suc zero))) h = omega arith
    go (suc (suc (suc (suc k)))) h = absurd (omega arith)
sign_bit_le false place = omega arith

sign_is : (b : Bool) (place k : ℕ) → slot place ≡ k → sign_bit b place ≡ bit b * 2 ^ k
sign_is true place k e = rw e (omega arith)
sign_is false place k e = omega arith

-- one pulse in each slot: the sign word stays below 16, and each pulse has its sign
module _ (a b c d : Bool) (p q r s : ℕ) (hp : slot p ≡ 0) (hq : slot q ≡ 1) (hr : slot r ≡ 2) (hs : slot s ≡ 3) where
  bits : sign_bit a p + sign_bit b q + sign_bit c r + sign_bit d s ≡ bit a + bit b * 2 + bit c * 4 + bit d * 8
  bits = rw (sign_is a p 0 hp, sign_is b q 1 hq, sign_is c r 2 hr, sign_is d s 3 hs) (omega arith)

  pub signs_fit : sign_bit a p + sign_bit b q + sign_bit c r + sign_bit d s ≤ 15
  signs_fit = rw bits (omega (arith, bit_lt a, bit_lt b, bit_lt c, bit_lt d))

  pub signs_back : (pulse_of (sign_bit a p + sign_bit b q + sign_bit c r + sign_bit d s) ≡ cond a (pos 8191) (negsuc 8191))
      × (pulse_of ((sign_bit a p + sign_bit b q + sign_bit c r + sign_bit d s) / 2) ≡ cond b (pos 8191) (negsuc 8191))
      × (pulse_of ((sign_bit a p + sign_bit b q + sign_bit c r + sign_bit d s) / 4) ≡ cond c (pos 8191) (negsuc 8191))
      × (pulse_of ((sign_bit a p + sign_bit b q + sign_bit c r + sign_bit d s) / 8) ≡ cond d (pos 8191) (negsuc 8191))
  signs_back =
      let ha = bit_lt a in
      let hb = bit_lt b in
      let hc = bit_lt c in
      let hd = bit_lt d in
      let w1 : (bit a + bit b * 2 + bit c * 4 + bit d * 8) / 2 ≡ bit b + (bit c * 2 + bit d * 4) = omega arith in
      let w2 : (bit a + bit b * 2 + bit c * 4 + bit d * 8) / 4 ≡ bit c + bit d * 2 = omega arith in
      let w3 : (bit a + bit b * 2 + bit c * 4 + bit d * 8) / 8 ≡ bit d = omega arith in
      let e0 : (bit a + bit b * 2 + bit c * 4 + bit d * 8) % 2 ≡ bit a = omega arith in
      let e1 : (bit b + (bit c * 2 + bit d * 4)) % 2 ≡ bit b = omega arith in
      let e2 : (bit c + bit d * 2) % 2 ≡ bit c = omega arith in
      let e3 : bit d % 2 ≡ bit d = omega arith in
      rw (bits, w1, w2, w3) (bit_back a _ e0, bit_back b _ e1, bit_back c _ e2, bit_back d _ e3)

-- ---- the reader
-- it leaves a list of 40 words
pub decode_length : (positions signs : ℕ) (out : List ℤ) → length out ≡ 40 → length (decode positions signs out).after ≡ 40
unfolding decode
decode_length positions signs out e =
    either (λ (o : Outcome Places (List ℤ)). length o.after ≡ 40) (eqb (length out) 40) _ _
    (either (λ (o : Outcome Places (List ℤ)). length o.after ≡ 40) (leb positions 8191) _ _
    (either (λ (o : Outcome Places (List ℤ)). length o.after ≡ 40) (leb signs 15) _ _ (rw (length-set, length-set, length-set, length-set) refl) e) e) e

-- and what it accepts is in its limits
pub accepted_fits : (positions signs : ℕ) (out : List ℤ) → length out ≡ 40 → accepts (decode positions signs out).answer ≡ true → (positions ≤ 8191) × (signs ≤ 15)
unfolding decode
accepted_fits positions signs out l = go (leb positions 8191) refl (leb signs 15) refl
  where
    go : (a : Bool) → leb positions 8191 ≡ a → (b : Bool) → leb signs 15 ≡ b → accepts (decode positions signs out).answer ≡ true → (positions ≤ 8191) × (signs ≤ 15)
    go true p true q e = (leb-true positions 8191 p, leb-true signs 15 q)
    go true p false q e = contradiction (rw (eq-eqb (length out) 40 l, p, q) at e)
    go false p b q e = contradiction (rw (eq-eqb (length out) 40 l, p) at e)
