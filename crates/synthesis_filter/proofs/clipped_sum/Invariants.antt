use mathlib.Core.Path.{◌≡◌}
use Prim.Native.Nat.{◌-◌}
use Rattle.fixed.specs.Operators.{L_mult}
use Rattle.fixed.specs.Lists.{at}
use Rattle.synthesis_filter.specs.Synthesis.{less_past}
use Rattle.synthesis_filter.proofs.clipped_sum.Given as goal

abbrev pub invariant-loop-tap : goal.invariant-loop-tap
invariant-loop-tap l = l.sum ≡ less_past l.coefficients l.before.samples.now l.before.place (L_mult l.excitation (at l.coefficients 0)) (l.tap - 1)
