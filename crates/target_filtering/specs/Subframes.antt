-- TS 26.073 subframePreProc: impulse response, residual, error and target of a subframe.
use Rattle.std.specs.Prelude.{cond, ◌&&◌, List, [], ◌∷◌, eqb, ℤ, pos, length, replicate}
use Rattle.fixed.specs.Lists.{part}
use Rattle.target_filtering.specs.declared.PreparedSubframe.{PreparedSubframe}
use Rattle.filters.specs.Filters.{Weight_Ai, Residu}
use Rattle.synthesis_filter.specs.Synthesis.{with_past, Syn_filt}

-- the powers of 0.94 in Q15 (gamma1)
unfoldable pub gamma_one : List ℤ
gamma_one = pos 30802 ∷ pos 28954 ∷ pos 27217 ∷ pos 25584 ∷ pos 24049 ∷ pos 22606 ∷ pos 21250 ∷ pos 19975 ∷ pos 18777 ∷ pos 17650 ∷ []

-- and of 0.6 (gamma2)
unfoldable pub gamma_two : List ℤ
gamma_two = pos 19661 ∷ pos 11797 ∷ pos 7078 ∷ pos 4247 ∷ pos 2548 ∷ pos 1529 ∷ pos 917 ∷ pos 550 ∷ pos 330 ∷ pos 198 ∷ []

-- no past: ten zeros
abbrev pub silence : List ℤ
silence = replicate 10 (pos 0)

-- cod_amr, 'compute impulse response of weighted synthesis filter (h1[])': the numerator's eleven and then zeros (a list reads 0 past its end), through 1 / A(z) and the denominator
unfoldable pub impulse_response : List ℤ → List ℤ → List ℤ → List ℤ
impulse_response numerator denominator quantized = Syn_filt denominator (Syn_filt quantized (part numerator 0 40) silence) silence

-- 'Find the target vector for pitch search': the error with its past through the numerator, then through the denominator
unfoldable pub target_of : List ℤ → List ℤ → List ℤ → List ℤ → List ℤ
target_of numerator denominator error past = Syn_filt denominator (Residu numerator error) past

-- subframePreProc: what `prepare` hands back. The weighting filter is A(z / 0.94) over A(z / 0.6)
unfoldable pub subframePreProc : List ℤ → List ℤ → List ℤ → List ℤ → List ℤ → PreparedSubframe
subframePreProc speech cs quantized error_past weighting_past =
    let numerator = Weight_Ai cs gamma_one in
    let denominator = Weight_Ai cs gamma_two in
    let residual = Residu quantized speech in
    record {
      residual_q0 = residual;
      impulse_q12 = impulse_response numerator denominator quantized;
      target_q0 = target_of numerator denominator (with_past quantized residual error_past) weighting_past;
      error_q0 = Syn_filt quantized residual error_past;
    }

-- the same for every list: all 0 where one has another length than 50, 11, 11, 10 and 10
unfoldable pub prepared : List ℤ → List ℤ → List ℤ → List ℤ → List ℤ → PreparedSubframe
prepared speech cs quantized error_past weighting_past =
    let silent = replicate 40 (pos 0) in
    cond (eqb (length speech) 50 && eqb (length cs) 11 && eqb (length quantized) 11 && eqb (length error_past) 10 && eqb (length weighting_past) 10)
    (subframePreProc speech cs quantized error_past weighting_past)
    (record { residual_q0 = silent; impulse_q12 = silent; target_q0 = silent; error_q0 = silent })
