-- 01, 'Closed loop': the index of a lag (TS 26.073 Enc_lag3) and the lag of an index (Dec_lag3).
use Rattle.std.specs.Prelude.{cond, ℕ, zero, suc, ◌+◌, ◌-◌, ◌*◌, ◌/◌, ◌%◌, ltb, leb}
use Rattle.pitch.specs.declared.Fraction.{Fraction}
use Rattle.pitch.specs.declared.Fraction.TheVariants.{MinusThird, Zero, PlusThird}
use Rattle.pitch.specs.declared.PitchLag.{PitchLag}
use Rattle.pitch.specs.declared.Subframe.{Subframe}
use Rattle.pitch.specs.Kinds.{from_zero, absolute}
use Rattle.pitch.specs.Windows.{relative_start}

-- '3 × lag − 58 + fraction up to lag 85, else lag + 112'
abbrev pub absolute_index : PitchLag → ℕ
absolute_index l = cond (leb l.samples 85) (3 * l.samples + from_zero l.fraction - 59) (l.samples + 112)

-- '3 × (lag − start) + 2 + fraction'
abbrev pub relative_index : ℕ → PitchLag → ℕ
relative_index start l = 3 * l.samples + from_zero l.fraction + 1 - 3 * start

-- 'fraction +1, −1, 0 where the index itself leaves remainder 0, 1, 2 by 3'
abbrev pub by_remainder : ℕ → Fraction
by_remainder zero = PlusThird
by_remainder (suc zero) = MinusThird
by_remainder (suc (suc n)) = Zero

-- and so of the index
abbrev pub fraction_at : ℕ → Fraction
fraction_at index = by_remainder (index % 3)

-- 'below 197: lag floor((index + 2) / 3) + 19', 'otherwise lag index − 112, fraction 0'
abbrev pub absolute_lag : ℕ → PitchLag
absolute_lag index =
    cond (ltb index 197) (record { samples = (index + 2) / 3 + 19; fraction = fraction_at index })
    (record { samples = index - 112; fraction = Zero })

-- the fraction that is n - 1
abbrev pub minus_one : ℕ → Fraction
minus_one zero = MinusThird
minus_one (suc zero) = Zero
minus_one (suc (suc n)) = PlusThird

-- 'i = floor((index + 2) / 3) − 1, lag start + i, fraction index − 2 − 3 × i'
abbrev pub relative_lag : ℕ → ℕ → PitchLag
relative_lag start index =
    record { samples = start + (index + 2) / 3 - 1; fraction = minus_one (index + 2 - 3 * ((index + 2) / 3)) }

-- ---- by the subframe
-- the index of a lag in a window that starts at `start`
abbrev pub index_of : Subframe → ℕ → PitchLag → ℕ
index_of s start l = cond (absolute s) (absolute_index l) (relative_index start l)

-- the lag of an index after the whole lag `previous`, in windows up to the upper lag
abbrev pub lag_of : ℕ → Subframe → ℕ → ℕ → PitchLag
lag_of upper s previous index = cond (absolute s) (absolute_lag index) (relative_lag (relative_start upper previous) index)
