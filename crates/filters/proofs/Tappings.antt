-- The sums of Residu by one tap more.
use mathlib.Core.Path.{◌≡◌, ◌∙◌}
use mathlib.Core.List.{List}
use Prim.Native.Nat.{ℕ, ◌+◌, ◌-◌}
use native.Mathlib.Numerals.{add-one}
use lib.IntN.{ℤ, pos}
use Rattle.fixed.specs.Operators.{L_mac}
use Rattle.fixed.specs.Lists.{at, between, L_sum}
use Rattle.fixed.proofs.Lists.{Filled, below_end}
use Rattle.filters.specs.Filters.{taps_to}

module _ (cs xs : List ℤ) where
  -- a tap more
  pub taps_more : (i n : ℕ) → L_mac (taps_to cs xs i n) (at xs (10 + i - n)) (at cs n) ≡ taps_to cs xs i (n + 1)
  unfolding taps_to L_sum L_mac
  taps_more i n = rw (add-one n)

  -- at every place
  pub row_done : (n : ℕ) (ss : List ℤ) → Filled (between (λ i. taps_to cs xs i (n + 1)) (λ i. taps_to cs xs i n) 0 40) (pos 0) 40 ss → Filled (λ i. taps_to cs xs i (n + 1)) (pos 0) 40 ss
  row_done n ss p k h = p k h ∙ below_end (λ i. taps_to cs xs i (n + 1)) (λ i. taps_to cs xs i n) 40 k h
