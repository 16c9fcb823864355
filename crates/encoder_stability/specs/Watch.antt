-- 02, request 04: 'The resonance watch'. TS 26.073 (ton_stab.c) check_lsp, check_gp_clipping and update_gp_clipping, and where cl_ltp and cod_amr call them.
use Rattle.std.specs.Prelude.{Bool, false, cond, ◌&&◌, ◌||◌, List, [], ◌∷◌, ◌++◌, ℕ, zero, suc, min, leb, ℤ, pos, negsuc, replicate, fold}
use Rattle.std.specs.Int.Signed.{lt_z}
use Rattle.fixed.specs.Operators.{add, sub, shl}
use Rattle.fixed.specs.Lists.{at, part}
use Rattle.refusal.specs.Refused.{values, put}
use Rattle.refusal.specs.Checks.{Outcome, unless_refused, whole_or_nothing, length_is}
use Rattle.gain_limit.specs.declared.GainLimit.{GainLimit}
use Rattle.gain_limit.specs.declared.GainLimit.TheVariants.{Unrestricted, Resonance}
use Rattle.gain_limit.specs.Limits.{limit_number}
use Rattle.gain.specs.declared.QuantizedGain.{QuantizedGain}
use Rattle.gain.specs.Rows.{quantize}
use Rattle.encoder_stability.specs.declared.Stability.{Stability}
use Rattle.encoder_stability.specs.declared.WatchedGain.{WatchedGain}

abbrev pub watch_of : ℕ → List ℤ → Stability
watch_of count gains = record { count = count; gains_q11 = gains }

-- 'A fresh watch has count 0 and seven zeros'
abbrev pub fresh_watch : Stability
fresh_watch = watch_of 0 (replicate 7 (pos 0))

-- ---- the spectrum
-- 'a value less the next, clipped': 'dist = sub(lsp[i], lsp[i+1])'
abbrev pub gap : List ℤ → ℕ → ℤ
gap xs i = sub (at xs i) (at xs (suc i))

-- whether one of n gaps, from gap i on, is below the bound
abbrev pub any_gap_below : ℤ → List ℤ → ℕ → ℕ → Bool
any_gap_below bound xs i zero = false
any_gap_below bound xs i (suc n) = lt_z (gap xs i) bound || any_gap_below bound xs (suc i) n

-- 'The threshold is 600 for the second value above 32000, 800 above 30500, else 1100'
abbrev pub threshold : ℤ → ℤ
threshold second = cond (lt_z (pos 32000) second) (pos 600) (cond (lt_z (pos 30500) second) (pos 800) (pos 1100))

-- 'an upper gap (a value less the next, clipped; five, from the fourth on) below 1500 or a lower gap (two, from the second) below a threshold':
-- 'for (i = 3; i < M-2; i++)' and 'for (i = 1; i < 3; i++)'
unfoldable pub close : List ℤ → Bool
close xs = any_gap_below (pos 1500) xs 3 5 || any_gap_below (threshold (at xs 1)) xs 1 2

-- 'raises the count, held at 12. Otherwise the count is 0': 'Need 12 consecutive frames to set the flag'
abbrev pub counted : Bool → ℕ → ℕ
counted narrow count = cond narrow (min (suc count) 12) 0

-- 'At 12 the spectrum is resonant'
abbrev pub resonant : ℕ → Bool
resonant count = leb 12 count

abbrev pub with_count : Stability → ℕ → Outcome Bool Stability
with_count w count = record { answer = values (resonant count); after = watch_of count w.gains_q11 }

-- 'A list of another length gets number 1; a refusal leaves the watch unchanged'
unfoldable pub observed : Stability → List ℤ → Outcome Bool Stability
observed w xs = unless_refused (length_is 10 xs ∷ []) w (with_count w (counted (close xs) w.count))

-- ---- the limit
-- 'shifted right by 3': of a gain in Q14 its eighth, which is the gain itself in Q11
abbrev pub eighth : ℤ → ℤ
eighth g = shl g (negsuc 2)

-- 'Resonance is chosen exactly if the spectrum is resonant, the pitch gain given with the stage is above 15565 and the clipped sum of its eighth and the
-- seven stored gains is above 15565'. 01: 'Sums are clipped after every single addition, in the Rust's order':
-- the eighth first, then the oldest to the newest, 'sum = add(sum, st->gp[i])'
unfoldable pub limit_by : Stability → ℤ → GainLimit
limit_by w g =
    cond (resonant w.count && lt_z (pos 15565) g && lt_z (pos 15565) (fold add (eighth g) w.gains_q11)) Resonance Unrestricted

-- ---- the stage
-- 'the chosen row's pitch gain, shifted right by 3, enters the seven stored gains and the oldest leaves': 'st->gp[N_FRAME-1] = shr(g_pitch, 3)'
abbrev pub pushed : Stability → ℤ → Stability
pushed w g = watch_of w.count (part w.gains_q11 1 6 ++ eighth g ∷ [])

-- a stage's row with the limit, and the watch after it
abbrev pub with_row : Stability → GainLimit → QuantizedGain → WatchedGain × Stability
with_row w limit q = (record { gain = q; limit = limit }, pushed w q.row.pitch_q14)

-- 'The limit chosen feeds the gain stage': the choice is by the watch as it was before the stage
unfoldable pub watched : Stability → List ℤ → List ℤ → List ℤ → ℤ → ℕ → ℤ → Outcome WatchedGain Stability
watched w xs ys zs exponent fraction g =
    let limit = limit_by w g in whole_or_nothing w (put (with_row w limit) (quantize xs ys zs exponent fraction (limit_number limit)))
