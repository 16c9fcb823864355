use mathlib.Core.Path.{◌≡◌}
use Prim.Native.Nat.{◌+◌}
use lib.IntN.{pos}
use lib.ListN.{length}
use Rattle.fixed.specs.Lists.{between}
use Rattle.fixed.proofs.Lists.{Filled}
use Rattle.filters.specs.Filters.{taps_to}
use Rattle.filters.proofs.tap_sums.Given as goal

abbrev pub invariant-loop-i : goal.invariant-loop-i
invariant-loop-i l = (length l.sums ≡ 40) × Filled (between (λ k. taps_to l.coefficients l.samples k (l.tap + 1)) (λ k. taps_to l.coefficients l.samples k l.tap) 0 l.i) (pos 0) 40 l.sums

abbrev pub invariant-loop-tap : goal.invariant-loop-tap
invariant-loop-tap l = (length l.sums ≡ 40) × Filled (λ k. taps_to l.coefficients l.samples k l.tap) (pos 0) 40 l.sums
