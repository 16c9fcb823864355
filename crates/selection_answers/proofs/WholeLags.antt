-- 02, request 01: what stays of 01's 'Hertz is floor(8000 / lag)'.
use mathlib.Core.Path.{◌≡◌, ap, ◌∙◌}
use Prim.Native.Nat.{ℕ, ◌/◌}
use native.Mathlib.Nat.{mul-div-mul_left}
use native.Mathlib.Omega.{arith}
use Rattle.pitch.specs.declared.Fraction.TheVariants.{Zero}
use Rattle.selection_answers.specs.Lines.{hertz}

-- at fraction 0, for every lag
pub whole_lag : (lag : ℕ) → hertz (record { samples = lag; fraction = Zero }) ≡ 8000 / lag
whole_lag lag = ap (λ d. 24000 / d) (omega arith) ∙ mul-div-mul_left {m = 3} 8000 lag (omega arith)
