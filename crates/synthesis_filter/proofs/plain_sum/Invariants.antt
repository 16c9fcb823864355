use mathlib.Core.Path.{◌≡◌}
use Prim.Native.Nat.{◌≤◌, ◌<◌, ◌+◌, ◌-◌, ◌^◌}
use lib.IntN.{nat_abs, ◌*ℤ◌}
use Rattle.fixed.specs.Lists.{at}
use Rattle.synthesis_filter.specs.Plain.{weighed}
use Rattle.synthesis_filter.proofs.Plainly.{exact_less}
use Rattle.synthesis_filter.proofs.plain_sum.Given as goal

-- the taps below l.tap are to come
abbrev pub invariant-loop-tap : goal.invariant-loop-tap
invariant-loop-tap l =
    (1 ≤ l.tap) × (nat_abs l.sum + weighed l.coefficients l.before.samples.now l.before.place (l.tap - 1) < 2 ^ 30)
    × (exact_less l.coefficients l.before.samples.now l.before.place l.sum (l.tap - 1) ≡ exact_less l.coefficients l.before.samples.now l.before.place (l.excitation *ℤ at l.coefficients 0) 10)
