-- 01, 'Pulses': how a pulse's place and sign are written into the position word and the sign word.
use Rattle.std.specs.Prelude.{Bool, cond, ℕ, zero, suc, ◌+◌, ◌*◌, ◌/◌, ◌%◌, ◌^◌, min, get_or}
use Rattle.codebook.specs.Gray.{gray}

-- the Gray number of a place
abbrev pub number_of : ℕ → ℕ
number_of place = get_or gray (place / 5) 0

-- 'three bits each for tracks 0, 1, 2; bit 9 set for track 4; bits 10 to 12 its number': what a number adds in its track
unfoldable pub in_track : ℕ → ℕ → ℕ
in_track zero number = number
in_track (suc zero) number = number * 8
in_track (suc (suc zero)) number = number * 64
in_track (suc (suc (suc zero))) number = number * 1024
in_track (suc (suc (suc (suc track)))) number = number * 1024 + 512

-- and so what a place adds to the position word
abbrev pub position_bits : ℕ → ℕ
position_bits place = in_track (place % 5) (number_of place)

-- 'Sign bits 0 to 2 belong to tracks 0 to 2, bit 3 to the last': which pulse of a word stands at a place, 0 to 3
abbrev pub slot : ℕ → ℕ
slot place = min (place % 5) 3

-- 'set means positive': what a place adds to the sign word
abbrev pub sign_bit : Bool → ℕ → ℕ
sign_bit positive place = cond positive (2 ^ slot place) 0
