use Rattle.filters.proofs.Lengths.{filtered_whole}
use Rattle.target_filtering.specs.Subframes.{target_of}
use Rattle.target_filtering.proofs.target_of.Goals as goal

pub returns : goal.returns
unfolding target_of
returns c = rw (c.synthesized.ensures, c.filtered.ensures, filtered_whole _ _ c.told-numerator c.told-error)
