-- The three lists that a search hands back have 40 words.
use mathlib.Core.Path.{◌≡◌, refl, ◌∙◌}
use mathlib.Core.List.{List}
use Prim.Native.Nat.{ℕ}
use lib.IntN.{ℤ, pos}
use lib.ListN.{length}
use Rattle.fixed.proofs.Lists.{length_tabulate}
use Rattle.codebook.proofs.ReadBack.{decode_length}
use Rattle.codebook_sharpening.specs.declared.SharpeningGain.{SharpeningGain}
use Rattle.codebook_sharpening.proofs.Sharpening.{sharpened_length}
use Rattle.codebook_code.specs.Codes.{filtered, build_code, of_correlation, of_impulse, code_4i40_17bits}

module _ (xs hs : List ℤ) (lag : ℕ) (gain : SharpeningGain) where
  pub innovation_length : length (code_4i40_17bits xs hs lag gain).innovation_q13 ≡ 40
  unfolding code_4i40_17bits of_impulse of_correlation build_code
  innovation_length = sharpened_length _ _ _ ∙ decode_length _ _ _ refl

  pub filtered_length : length (code_4i40_17bits xs hs lag gain).filtered_q12 ≡ 40
  unfolding code_4i40_17bits of_impulse of_correlation build_code filtered
  filtered_length = length_tabulate _ (pos 0) 40

  pub impulse_length : length hs ≡ 40 → length (code_4i40_17bits xs hs lag gain).sharpened_impulse_q12 ≡ 40
  unfolding code_4i40_17bits of_impulse of_correlation build_code
  impulse_length e = sharpened_length _ _ _ ∙ e
