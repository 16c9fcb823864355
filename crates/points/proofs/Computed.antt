-- Every point holds, by computing: a declaration each, so that what one computes is let go before the next.
use mathlib.Core.Path.{refl}
use mathlib.Core.List.{[]}
use Prim.Native.Nat.{ℕ}
use lib.ListN.{get_or}
use Rattle.refusal.specs.Refused.{values}
use Rattle.logarithm.specs.Opens.{logarithm_opens}
use Rattle.open_loop.specs.Opens.{open_loop_opens}
use Rattle.pitch_search.specs.Opens.{search_opens}
use Rattle.codebook_search.specs.Opens.{pulse_opens}
use Rattle.gain_pitch.specs.Opens.{pitch_gain_opens}
use Rattle.gain.specs.Opens.{gain_opens}
use Rattle.points.specs.Answer.{powerOfTwo, answer}
use Rattle.points.specs.Table.{Point, Holds, points, Points}

abbrev point : ℕ → Point
point i = get_or points i (record { asked = powerOfTwo 0 0; told = values [] })

pow2_14 : Holds (point 0)
unfolding points answer logarithm_opens
pow2_14 = refl

index_of_85 : Holds (point 1)
unfolding points answer
index_of_85 = refl

index_0 : Holds (point 2)
unfolding points answer
index_0 = refl

index_196 : Holds (point 3)
unfolding points answer
index_196 = refl

index_255 : Holds (point 4)
unfolding points answer
index_255 = refl

after_144 : Holds (point 5)
unfolding points answer
after_144 = refl

after_20 : Holds (point 6)
unfolding points answer
after_20 = refl

line_2 : Holds (point 7)
unfolding points answer open_loop_opens
line_2 = refl

line_3 : Holds (point 8)
unfolding points answer search_opens
line_3 = refl

line_4 : Holds (point 9)
unfolding points answer search_opens
line_4 = refl

line_6 : Holds (point 10)
unfolding points answer pulse_opens
line_6 = refl

sharpened_21 : Holds (point 11)
unfolding points answer pulse_opens
sharpened_21 = refl

line_7 : Holds (point 12)
unfolding points answer gain_opens
line_7 = refl

line_7_resonance : Holds (point 13)
unfolding points answer gain_opens
line_7_resonance = refl

gain_of_zeros : Holds (point 14)
unfolding points answer pitch_gain_opens
gain_of_zeros = refl

pub computed : Points
unfolding Points
computed = (pow2_14, (index_of_85, (index_0, (index_196, (index_255, (after_144, (after_20, (line_2, (line_3, (line_4, (line_6, (sharpened_21, (line_7, (line_7_resonance, (gain_of_zeros, tt)))))))))))))))
