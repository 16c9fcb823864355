use Rattle.synthesis_filter.proofs.Lengths.{synthesis_put_out}
use Rattle.target_filtering.proofs.synthesized.Goals as goal

pub returns : goal.returns
returns c = rw (c.put_out.ensures, c.synthesis.ensures) (synthesis_put_out _ _ _ c.told-coefficients c.told-excitation c.told-past)
