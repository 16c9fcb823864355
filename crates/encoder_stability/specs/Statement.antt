-- 02, request 04: what the watch keeps to, from whatever it holds and on all lists and numbers.
use Rattle.std.specs.Prelude.{◌≡◌, ◌⊎◌, ◌≤◌, List, ℕ, ℤ}
use Rattle.refusal.specs.Refused.{values, refused}
use Rattle.gain_limit.specs.Limits.{limit_number, gp_limit}
use Rattle.gain_choice.specs.Rows.{LowestOfLeast, within_limit}
use Rattle.gain.specs.declared.QuantizedGain.{QuantizedGain}
use Rattle.gain.specs.Rows.{quantize}
use Rattle.gain.specs.Statement.{distance_of}
use Rattle.encoder_stability.specs.declared.Stability.{Stability}
use Rattle.encoder_stability.specs.declared.WatchedGain.{WatchedGain}
use Rattle.encoder_stability.specs.Watch.{limit_by, watched}

-- ---- 'Both callers see the row of least distance within the limit they used'
-- of the rows within a limit of that number, the lowest of least distance
abbrev pub Lowest : List ℤ → List ℤ → List ℤ → ℤ → ℕ → ℕ → QuantizedGain → Type 0
Lowest xs ys zs exponent fraction choice q =
    LowestOfLeast (within_limit (gp_limit choice)) (distance_of xs ys zs exponent fraction) 128 q.index

-- the stage run with the watch, and the one under a limit set by hand
unfoldable pub BothCallers : Type 0
BothCallers =
    (xs ys zs : List ℤ) (exponent : ℤ) (fraction : ℕ) →
    ((w : Stability) (g : ℤ) (a : WatchedGain) →
    (watched w xs ys zs exponent fraction g).answer ≡ values a → (a.limit ≡ limit_by w g) × Lowest xs ys zs exponent fraction (limit_number a.limit) a.gain)
    × ((choice : ℕ) (q : QuantizedGain) → quantize xs ys zs exponent fraction choice ≡ values q → Lowest xs ys zs exponent fraction choice q)

-- ---- with request 14: where the unrestricted row is at most 95, the watch changes nothing, whichever limit it chooses
unfoldable pub NothingChanges : Type 0
NothingChanges =
    (w : Stability) (xs ys zs : List ℤ) (exponent : ℤ) (fraction : ℕ) (g : ℤ) (q : QuantizedGain) →
    quantize xs ys zs exponent fraction 0 ≡ values q → q.index ≤ 95 →
    (watched w xs ys zs exponent fraction g).answer ≡ values (record { gain = q; limit = limit_by w g })

-- ---- a refusal is the one of `quantize`, by 1, 7 or 14 alone, and leaves the watch as it was
abbrev pub OneSevenOrFourteen : ℕ → Type 0
OneSevenOrFourteen n = (n ≡ 1) ⊎ (n ≡ 7) ⊎ (n ≡ 14)

unfoldable pub Refusals : Type 0
Refusals =
    (w : Stability) (xs ys zs : List ℤ) (exponent : ℤ) (fraction : ℕ) (g : ℤ) (n : ℕ) (d : ℤ) →
    (watched w xs ys zs exponent fraction g).answer ≡ refused n d →
    (quantize xs ys zs exponent fraction 0 ≡ refused n d) × OneSevenOrFourteen n × ((watched w xs ys zs exponent fraction g).after ≡ w)
