-- 01, 'Pulse reader (TS 26.073): 8191 or −8192': decode_4i40_17bits.
use Rattle.std.specs.Prelude.{cond, List, [], ◌∷◌, ℕ, ◌+◌, ◌*◌, ◌/◌, ◌%◌, eqb, ℤ, pos, negsuc, get_or, set, replicate}
use Rattle.refusal.specs.Refused.{values}
use Rattle.refusal.specs.Checks.{Outcome, unless_refused, length_is, position_word, sign_word}
use Rattle.codebook.specs.declared.Places.{Places}
use Rattle.codebook.specs.Gray.{dgray}

-- the place in a track whose Gray number the lowest three bits are
abbrev pub place_of : ℕ → ℕ → ℕ
place_of bits track = get_or dgray (bits % 8) 0 * 5 + track

-- the four places of a position word; the last track is 3, or 4 where bit 9 is set
abbrev pub places_of : ℕ → Places
places_of positions =
    record {
      first = place_of positions 0;
      second = place_of (positions / 8) 1;
      third = place_of (positions / 64) 2;
      last = place_of (positions / 1024) (3 + positions / 512 % 2);
    }

-- the pulse whose sign the lowest bit is
abbrev pub pulse_of : ℕ → ℤ
pulse_of bits = cond (eqb (bits % 2) 1) (pos 8191) (negsuc 8191)

-- 40 words, in Q13, with the pulses at their places
abbrev pub pulses_at : Places → ℕ → List ℤ
pulses_at p signs =
    set (set (set (set (replicate 40 (pos 0)) p.first (pulse_of signs)) p.second (pulse_of (signs / 2))) p.third (pulse_of (signs / 4)))
    p.last (pulse_of (signs / 8))

-- ---- the reader
-- decode_4i40_17bits behind 01's checks: the answer, and the lent list after it
unfoldable pub decode : ℕ → ℕ → List ℤ → Outcome Places (List ℤ)
decode positions signs out =
    unless_refused (length_is 40 out ∷ position_word positions ∷ sign_word signs ∷ []) out
    (record { answer = values (places_of positions); after = pulses_at (places_of positions) signs })
