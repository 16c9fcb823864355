-- The lists of a subframe: how long they are.
use mathlib.Core.Path.{◌≡◌}
use mathlib.Core.List.{List}
use lib.IntN.{ℤ}
use lib.ListN.{length}
use borrow.Author.Tests.{eq-eqb}
use Rattle.filters.proofs.Lengths.{residu_length}
use Rattle.synthesis_filter.proofs.Lengths.{syn_length}
use Rattle.target_filtering.specs.Subframes.{impulse_response, target_of, subframePreProc, prepared}

-- the four lists of `prepare`, in their order
module _ (speech cs quantized error_past weighting_past : List ℤ) where
  pub residual_length : length (subframePreProc speech cs quantized error_past weighting_past).residual_q0 ≡ 40
  unfolding subframePreProc
  residual_length = residu_length _ _

  pub impulse_length : length (subframePreProc speech cs quantized error_past weighting_past).impulse_q12 ≡ 40
  unfolding subframePreProc impulse_response
  impulse_length = syn_length _ _ _

  pub target_length : length (subframePreProc speech cs quantized error_past weighting_past).target_q0 ≡ 40
  unfolding subframePreProc target_of
  target_length = syn_length _ _ _

  pub error_length : length (subframePreProc speech cs quantized error_past weighting_past).error_q0 ≡ 40
  unfolding subframePreProc
  error_length = syn_length _ _ _

-- lists as long as a subframe's
pub prepared_whole : (speech cs quantized error_past weighting_past : List ℤ) →
    length speech ≡ 50 → length cs ≡ 11 → length quantized ≡ 11 → length error_past ≡ 10 → length weighting_past ≡ 10 →
    prepared speech cs quantized error_past weighting_past ≡ subframePreProc speech cs quantized error_past weighting_past
unfolding prepared
prepared_whole speech cs quantized error_past weighting_past a b c d e =
    rw (eq-eqb (length speech) 50 a, eq-eqb (length cs) 11 b, eq-eqb (length quantized) 11 c, eq-eqb (length error_past) 10 d, eq-eqb (length weighting_past) 10 e)
