-- TS 26.073 Convolve: a list filtered by an impulse response in Q12.
use Rattle.std.specs.Prelude.{List, [], ◌∷◌, ℕ, ℤ, pos}
use Rattle.fixed.specs.Operators.{L_shl, extract_h}
use Rattle.fixed.specs.Lists.{tabulate}
use Rattle.sums.specs.Convolutions.{convolution}
use Rattle.refusal.specs.Refused.{values}
use Rattle.refusal.specs.Checks.{Outcome, unless_refused, length_is}

-- place n: the sum of n + 1 products, clipped after every addition, shifted to the left by 3, its high word
unfoldable pub convolved_at : List ℤ → List ℤ → ℕ → ℤ
convolved_at xs hs n = extract_h (L_shl (convolution xs hs n) (pos 3))

-- TS 26.073 Convolve
unfoldable pub Convolve : List ℤ → List ℤ → List ℤ
Convolve xs hs = tabulate (convolved_at xs hs) 40

-- ---- the entry
-- 01, number 1, 'in the order of the Rust's arguments, a list to be written last': the answer, and the lent list after it
unfoldable pub convolve : List ℤ → List ℤ → List ℤ → Outcome (Unit {0}) (List ℤ)
convolve xs hs out =
    unless_refused (length_is 40 xs ∷ length_is 40 hs ∷ length_is 40 out ∷ []) out (record { answer = values tt; after = Convolve xs hs })
