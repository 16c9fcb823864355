use mathlib.Core.Path.{◌≡◌}
use Prim.Native.Nat.{◌≤◌, ◌*◌}
use Rattle.synthesis_filter.specs.Plain.{magnitudes}
use Rattle.synthesis_filter.proofs.reach.Given as goal

abbrev pub invariant-loop-coefficient : goal.invariant-loop-coefficient
invariant-loop-coefficient l = (l.sum ≤ l.coefficient-index * 65535) × (l.sum ≡ magnitudes l.coefficients l.coefficient-index)
