-- One name for an `unfolding` line that computes the definitions of this crate.
use Rattle.fixed.specs.Opens.{fixed_opens}
use Rattle.logarithm.specs.Logarithms.{log2_table, log2_of, Log2}
use Rattle.logarithm.specs.Powers.{pow2_table, shr_r, power, Pow2}

unfoldable pub logarithm_opens : Unit {0}
unfolding fixed_opens log2_table log2_of Log2 pow2_table shr_r power Pow2
logarithm_opens = tt
