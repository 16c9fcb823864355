use mathlib.Core.Path.{◌≡◌}
use Rattle.filters.specs.Filters.{Residu}
use Rattle.filters.proofs.Lengths.{residu_length, filtered_whole}
use Rattle.synthesis_filter.specs.Synthesis.{with_past, Syn_filt}
use Rattle.synthesis_filter.proofs.Lengths.{synthesis_whole}
use Rattle.target_filtering.specs.Subframes.{gamma_one, gamma_two, subframePreProc}
use Rattle.target_filtering.proofs.subframe.Goals as goal

pub returns : goal.returns
unfolding subframePreProc gamma_one gamma_two Syn_filt
returns c =
    let quantized = c.args.quantized.now in
    let speech = c.args.speech.now in
    let past = c.args.error_history.now in
    let r : c.filtered-residual.result ≡ Residu quantized speech = rw c.filtered-residual.ensures (filtered_whole quantized speech c.told-quantized c.told-speech) in
    let y : c.synthesis-error.result ≡ with_past quantized (Residu quantized speech) past =
    rw (c.synthesis-error.ensures, r) (synthesis_whole quantized (Residu quantized speech) past c.told-quantized (residu_length quantized speech) c.told-error_history)
    in
    rw (
      c.put_out.ensures,
      c.target_of.ensures,
      c.impulse_response.ensures,
      y,
      r,
      c.weight-denominator.ensures,
      c.weight-numerator.ensures,
    )
