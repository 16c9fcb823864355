-- TS 26.073 build_code and code_4i40_17bits: the words of the pulses, their innovation, what the impulse makes of them.
use Rattle.std.specs.Prelude.{cond, List, [], ◌∷◌, ℕ, ◌+◌, ◌-◌, ltb, eqb, ℤ, pos, negsuc, set, replicate}
use Rattle.std.specs.Int.Signed.{lt_z}
use Rattle.fixed.specs.Operators.{L_mac, round}
use Rattle.fixed.specs.Lists.{at, tabulate}
use Rattle.codebook.specs.Words.{position_bits, slot, sign_bit}
use Rattle.codebook.specs.declared.Places.{Places}
use Rattle.codebook.specs.Readers.{decode}
use Rattle.codebook_sharpening.specs.declared.SharpeningGain.{SharpeningGain}
use Rattle.codebook_sharpening.specs.Sharpenings.{doubled, sharpened}
use Rattle.codebook_target.specs.Targets.{cor_h_x}
use Rattle.codebook_target.specs.Starts.{signs_of as set-signs, magnitudes_of, set_sign}
use Rattle.codebook_matrix.specs.Matrices.{cor_h}
use Rattle.codebook_steps.specs.declared.Trial.{Trial}
use Rattle.codebook_choice.specs.Choices.{search_4i40}
use Rattle.codebook_code.specs.declared.SearchResult.{SearchResult}

-- ---- build_code
-- 01: the position word, 'indx' of build_code
unfoldable pub positions_of : Trial → ℕ
positions_of t = position_bits t.first + position_bits t.second + position_bits t.third + position_bits t.fourth

-- 01: the sign word, 'rsign' of build_code
unfoldable pub signs_of : Trial → List ℤ → ℕ
signs_of t signs =
    sign_bit (lt_z (pos 0) (at signs t.first)) t.first + sign_bit (lt_z (pos 0) (at signs t.second)) t.second
    + sign_bit (lt_z (pos 0) (at signs t.third)) t.third + sign_bit (lt_z (pos 0) (at signs t.fourth)) t.fourth

-- 01: 'the filtered pulses, which use 32767 and −32768'
abbrev pub full_sign : ℤ → ℤ
full_sign sign = cond (lt_z (pos 0) sign) (pos 32767) (negsuc 32767)

-- the impulse from a pulse's place on, at place i
abbrev pub delayed : List ℤ → ℕ → ℕ → ℤ
delayed hs p i = cond (ltb i p) (pos 0) (at hs (i - p))

-- 's = L_mac(s, *p0++, _sign[0])' of build_code: a pulse more at place i
unfoldable pub through : List ℤ → List ℤ → ℕ → ℤ → ℕ → ℤ
through hs signs i s p = L_mac s (delayed hs p i) (full_sign (at signs p))

-- the pulses one after the other
unfoldable pub through_all : List ℤ → List ℤ → ℕ → ℤ → List ℕ → ℤ
through_all hs signs i s [] = s
through_all hs signs i s (p ∷ ps) = through_all hs signs i (through hs signs i s p) ps

-- 01's wrong turn is 'sorting the pulses before a clipped sum': they stand in the order of the choice
unfoldable pub in_order : Trial → List ℕ
in_order t = t.first ∷ t.second ∷ t.third ∷ t.fourth ∷ []

-- at place i, from 0 on, rounded
unfoldable pub filtered_at : Trial → List ℤ → List ℤ → ℕ → ℤ
filtered_at t hs signs i = round (through_all hs signs i (pos 0) (in_order t))

-- 'y[i] = round(s)'
unfoldable pub filtered : Trial → List ℤ → List ℤ → List ℤ
filtered t hs signs = tabulate (filtered_at t hs signs) 40

-- the five answers; the innovation is what a decoder makes of the two words, sharpened like the impulse
unfoldable pub build_code : Trial → List ℤ → List ℤ → ℕ → ℤ → SearchResult
build_code t hs signs lag sharp =
    record {
      words = record { positions = positions_of t; signs = signs_of t signs };
      innovation_q13 = sharpened (decode (positions_of t) (signs_of t signs) (replicate 40 (pos 0))).after lag sharp;
      filtered_q12 = filtered t hs signs;
      sharpened_impulse_q12 = hs;
    }

-- ---- code_4i40_17bits
-- the choice, by the magnitudes, the table and the starts that a correlation gives
unfoldable pub chosen : List ℤ → List ℤ → Trial
chosen hs cs = search_4i40 (magnitudes_of cs) (cor_h hs (set-signs cs)) (set_sign (magnitudes_of cs))

-- from the sharpened impulse and the target's correlation with it
unfoldable pub of_correlation : List ℤ → List ℤ → ℕ → ℤ → SearchResult
of_correlation hs cs lag sharp = build_code (chosen hs cs) hs (set-signs cs) lag sharp

-- from the target and the sharpened impulse
unfoldable pub of_impulse : List ℤ → List ℤ → ℕ → ℤ → SearchResult
of_impulse xs hs lag sharp = of_correlation hs (cor_h_x xs hs) lag sharp

-- code_4i40_17bits: the impulse is sharpened first
unfoldable pub code_4i40_17bits : List ℤ → List ℤ → ℕ → SharpeningGain → SearchResult
code_4i40_17bits xs hs lag gain = of_impulse xs (sharpened hs lag (doubled gain)) lag (doubled gain)

-- ---- what a decoder reads: these speak of the round trip alone (proofs/Reading.antt)
-- the pulse in a slot: tracks 0, 1, 2, and 3 or 4
abbrev pub in_slot : Trial → ℕ → ℕ
in_slot t k =
    cond (eqb (slot t.first) k) t.first
    (cond (eqb (slot t.second) k) t.second (cond (eqb (slot t.third) k) t.third t.fourth))

-- the four pulses by their tracks
abbrev pub by_track : Trial → Places
by_track t = record { first = in_slot t 0; second = in_slot t 1; third = in_slot t 2; last = in_slot t 3 }

-- a pulse with the sign of its place
abbrev pub pulse_at : List ℤ → ℕ → ℤ
pulse_at signs p = cond (lt_z (pos 0) (at signs p)) (pos 8191) (negsuc 8191)

-- the four with their signs, and 0 elsewhere
abbrev pub placed : List ℤ → Places → List ℤ
placed signs p =
    set (set (set (set (replicate 40 (pos 0)) p.first (pulse_at signs p.first)) p.second (pulse_at signs p.second))
    p.third (pulse_at signs p.third)) p.last (pulse_at signs p.last)
