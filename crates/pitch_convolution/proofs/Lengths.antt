-- What Convolve hands back has 40 words.
use mathlib.Core.Path.{◌≡◌}
use mathlib.Core.List.{List}
use lib.IntN.{ℤ, pos}
use lib.ListN.{length}
use Rattle.fixed.proofs.Lists.{length_tabulate}
use Rattle.pitch_convolution.specs.Filters.{convolved_at, Convolve}

pub convolve_length : (xs hs : List ℤ) → length (Convolve xs hs) ≡ 40
unfolding Convolve
convolve_length xs hs = length_tabulate (convolved_at xs hs) (pos 0) 40
