use mathlib.Core.Path.{◌≡◌}
use Prim.Native.Nat.{◌+◌}
use lib.IntN.{pos}
use lib.ListN.{length}
use Rattle.fixed.specs.Lists.{at}
use Rattle.fixed.proofs.Lists.{Filled}
use Rattle.synthesis_filter.specs.Plain.{Below}
use Rattle.synthesis_filter.specs.Synthesis.{put_out}
use Rattle.synthesis_filter.proofs.with_past.Given as goal

abbrev pub invariant-loop-n : goal.invariant-loop-n
invariant-loop-n l = (length l.samples ≡ 50) × Filled (at (put_out l.coefficients l.excitation l.past l.n)) (pos 0) (10 + l.n) l.samples × Below l.samples (10 + l.n) l.peak
