-- The round trip: a pulse reader reads back the four places and their signs.
use mathlib.Core.Path.{◌≡◌, refl, sym, ap, ◌∙◌}
use mathlib.Core.List.{List}
use mathlib.Core.Logic.{⊎_elim}
use Prim.Native.Nat.{ℕ, ◌+◌, ◌%◌, ◌≤◌, ◌<◌}
use native.Mathlib.Omega.{arith}
use borrow.Author.Tests.{eq-eqb, le-leb}
use lib.IntN.{ℤ, pos}
use lib.ListN.{length, replicate}
use lib.Signed.{lt_z}
use Rattle.fixed.specs.Lists.{at}
use Rattle.refusal.specs.Refused.{values, accepts}
use Rattle.refusal.specs.Checks.{Outcome}
use Rattle.codebook.specs.declared.Places.{Places}
use Rattle.codebook.specs.Words.{position_bits, slot, sign_bit}
use Rattle.codebook.specs.Readers.{decode}
use Rattle.codebook.proofs.ReadBack.{positions_fit, positions_back, signs_fit, signs_back, accepted_fits}
use Rattle.codebook_target.proofs.Starting.{OfTrack}
use Rattle.codebook_sharpening.specs.declared.SharpeningGain.{SharpeningGain}
use Rattle.codebook_sharpening.specs.Sharpenings.{doubled, sharpened}
use Rattle.codebook_target.specs.Targets.{cor_h_x}
use Rattle.codebook_target.specs.Starts.{signs_of as set-signs, magnitudes_of, set_sign}
use Rattle.codebook_matrix.specs.Matrices.{cor_h}
use Rattle.codebook_code.specs.declared.PulseWords.{PulseWords}
use Rattle.codebook_steps.specs.declared.Trial.{Trial}
use Rattle.codebook_code.specs.Codes.{positions_of, signs_of, by_track, placed, build_code, chosen, of_correlation, of_impulse, code_4i40_17bits}
use Rattle.codebook_choice.proofs.Choosing.{InTracks, Permuted, Spread, search_spread}

-- what a decoder reads of these places
abbrev pub Read : List ℤ → Places → Outcome Places (List ℤ)
Read signs p = record { answer = values p; after = placed signs p }

-- the sign bit of a place
abbrev bit_of : List ℤ → ℕ → ℕ
bit_of signs p = sign_bit (lt_z (pos 0) (at signs p)) p

-- places in tracks 0, 1, 2 and in 3 or 4, in this order
module _ (signs out : List ℤ) (lo : length out ≡ 40) (p q r s : ℕ) (hp : OfTrack 0 p) (hq : OfTrack 1 q) (hr : OfTrack 2 r) (hs : s < 40) (ts : 3 ≤ s % 5) where
  slot_p : slot p ≡ 0
  slot_p = omega (arith, hp.0)

  slot_q : slot q ≡ 1
  slot_q = omega (arith, hq.0)

  slot_r : slot r ≡ 2
  slot_r = omega (arith, hr.0)

  slot_s : slot s ≡ 3
  slot_s = omega (arith, ts)

  read_sorted : decode (position_bits p + position_bits q + position_bits r + position_bits s) (bit_of signs p + bit_of signs q + bit_of signs r + bit_of signs s) out
      ≡ Read signs (record { first = p; second = q; third = r; last = s })
  unfolding decode
  read_sorted =
      let b = signs_back (lt_z (pos 0) (at signs p)) (lt_z (pos 0) (at signs q)) (lt_z (pos 0) (at signs r)) (lt_z (pos 0) (at signs s)) p q r s slot_p slot_q slot_r slot_s in
      let f = signs_fit (lt_z (pos 0) (at signs p)) (lt_z (pos 0) (at signs q)) (lt_z (pos 0) (at signs r)) (lt_z (pos 0) (at signs s)) p q r s slot_p slot_q slot_r slot_s in
      let e = positions_back p q r s hp.1 hq.1 hr.1 hs hp.0 hq.0 hr.0 ts in
      rw (eq-eqb (length out) 40 lo, le-leb _ 8191 (positions_fit p q r s hp.1 hq.1 hr.1 hs hp.0 hq.0 hr.0 ts), le-leb _ 15 f, ap (λ (x : Places). x.first) e, ap (λ (x : Places). x.second) e, ap (λ (x : Places). x.third) e, ap (λ (x : Places). x.last) e, b.0, b.1, b.2, b.3)

-- the pulses of a trial, in whatever order they were chosen
module _ (t : Trial) (signs out : List ℤ) (lo : length out ≡ 40) where
  -- what a decoder reads of the two words
  abbrev Back : Type 0
  Back = decode (positions_of t) (signs_of t signs) out ≡ Read signs (by_track t)

  -- the four by their tracks
  sorted : (p q r s : ℕ) → OfTrack 0 p → OfTrack 1 q → OfTrack 2 r → s < 40 → 3 ≤ s % 5 →
      positions_of t ≡ position_bits p + position_bits q + position_bits r + position_bits s →
      signs_of t signs ≡ bit_of signs p + bit_of signs q + bit_of signs r + bit_of signs s →
      by_track t ≡ record { first = p; second = q; third = r; last = s } → Back
  sorted p q r s hp hq hr hs ts x y e =
      ap (λ (w : ℕ). decode w (signs_of t signs) out) x
      ∙ ap (λ (w : ℕ). decode (position_bits p + position_bits q + position_bits r + position_bits s) w out) y
      ∙ read_sorted signs out lo p q r s hp hq hr hs ts
      ∙ ap (Read signs) (sym e)

  module _ (l : ℕ) (h : 3 ≤ l) where
    from_0 : InTracks 0 1 2 l t → Back
    unfolding positions_of signs_of
    from_0 i =
        let a : slot t.first ≡ 0 = omega (arith, i.0.0) in
        let b : slot t.second ≡ 1 = omega (arith, i.1.0) in
        let c : slot t.third ≡ 2 = omega (arith, i.2.0) in
        sorted t.first t.second t.third t.fourth i.0 i.1 i.2 i.3.1 (omega (arith, i.3.0)) refl refl (rw (a, b, c))

    from_last : InTracks l 0 1 2 t → Back
    unfolding positions_of signs_of
    from_last i =
        let a : slot t.first ≡ 3 = omega (arith, i.0.0, h) in
        let b : slot t.second ≡ 0 = omega (arith, i.1.0) in
        let c : slot t.third ≡ 1 = omega (arith, i.2.0) in
        sorted t.second t.third t.fourth t.first i.1 i.2 i.3 i.0.1 (omega (arith, i.0.0)) (omega arith) (omega arith) (rw (a, b, c))

    from_2 : InTracks 2 l 0 1 t → Back
    unfolding positions_of signs_of
    from_2 i =
        let a : slot t.first ≡ 2 = omega (arith, i.0.0) in
        let b : slot t.second ≡ 3 = omega (arith, i.1.0, h) in
        let c : slot t.third ≡ 0 = omega (arith, i.2.0) in
        sorted t.third t.fourth t.first t.second i.2 i.3 i.0 i.1.1 (omega (arith, i.1.0)) (omega arith) (omega arith) (rw (a, b, c))

    from_1 : InTracks 1 2 l 0 t → Back
    unfolding positions_of signs_of
    from_1 i =
        let a : slot t.first ≡ 1 = omega (arith, i.0.0) in
        let b : slot t.second ≡ 2 = omega (arith, i.1.0) in
        let c : slot t.third ≡ 3 = omega (arith, i.2.0, h) in
        sorted t.fourth t.first t.second t.third i.3 i.0 i.1 i.2.1 (omega (arith, i.2.0)) (omega arith) (omega arith) (rw (a, b, c))

    permuted : Permuted l t → Back
    permuted r = ⊎_elim from_0 (λ r₁. ⊎_elim from_last (λ r₂. ⊎_elim from_2 from_1 r₂) r₁) r

  pub spread_back : Spread t → Back
  spread_back s = ⊎_elim (permuted 3 (omega arith)) (permuted 4 (omega arith)) s

-- of every search, with any list lent: the reader reads its four places with their signs
module _ (xs hs : List ℤ) (lag : ℕ) (gain : SharpeningGain) where
  -- the sharpened impulse, and the target's correlation with it
  abbrev impulse : List ℤ
  impulse = sharpened hs lag (doubled gain)

  abbrev correlation : List ℤ
  correlation = cor_h_x xs impulse

  abbrev found : PulseWords
  found = (code_4i40_17bits xs hs lag gain).words

  pub reads_back : (out : List ℤ) → length out ≡ 40 → decode found.positions found.signs out ≡ Read (set-signs correlation) (by_track (chosen impulse correlation))
  unfolding code_4i40_17bits of_impulse of_correlation build_code chosen
  reads_back out l =
      spread_back (chosen impulse correlation) (set-signs correlation) out l
      (search_spread (magnitudes_of correlation) (cor_h impulse (set-signs correlation)) (set_sign (magnitudes_of correlation)))

  -- and so they are at most 8191 and 15
  pub words_fit : (found.positions ≤ 8191) × (found.signs ≤ 15)
  words_fit = accepted_fits found.positions found.signs (replicate 40 (pos 0)) refl (ap (λ (o : Outcome Places (List ℤ)). accepts o.answer) (reads_back (replicate 40 (pos 0)) refl))
