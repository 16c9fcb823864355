use Rattle.codebook_choice.proofs.Choosing.{search_lt}
use Rattle.codebook_code.proofs.searched.Goals as goal

pub invariant_of-pulses : goal.invariant_of-pulses
invariant_of-pulses c = record { in_subframe = search_lt _ _ _ c.select.result c.select.ensures }
