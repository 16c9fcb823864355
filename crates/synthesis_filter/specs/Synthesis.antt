-- TS 26.073 Syn_filt: a filter of ten coefficients in Q12 after one at place 0, which an encoder sets to 1; nothing here rests on it.
use Rattle.std.specs.Prelude.{cond, ◌&&◌, List, [], ◌∷◌, ◌++◌, ℕ, zero, suc, ◌+◌, ◌-◌, eqb, ℤ, pos, length, replicate}
use Rattle.fixed.specs.Operators.{L_mult, L_msu, L_shl, round}
use Rattle.fixed.specs.Lists.{at, part}

-- Syn_filt: s less the first n of the ten products with what was put out before `place`
unfoldable pub less_past : List ℤ → List ℤ → ℕ → ℤ → ℕ → ℤ
less_past cs ys place s zero = s
less_past cs ys place s (suc n) = L_msu (less_past cs ys place s n) (at cs (suc n)) (at ys (place - suc n))

-- Syn_filt: the sample at a place from the excitation x and the samples ys before it. 01: 'The shift inside the synthesis filter is 3 bits'
unfoldable pub synthesized : List ℤ → ℤ → List ℤ → ℕ → ℤ
synthesized cs x ys place = round (L_shl (less_past cs ys place (L_mult x (at cs 0)) 10) (pos 3))

-- the samples so far, and one more
unfoldable pub one_more : List ℤ → ℤ → List ℤ → ℕ → List ℤ
one_more cs x ys place = ys ++ (synthesized cs x ys place ∷ [])

-- Syn_filt: ten samples of the past, and the first n that the filter puts out after them
unfoldable pub put_out : List ℤ → List ℤ → List ℤ → ℕ → List ℤ
put_out cs xs past zero = part past 0 10
put_out cs xs past (suc n) = one_more cs (at xs n) (put_out cs xs past n) (10 + n)

-- 1 / A(z) with its past: ten samples and a subframe's 40
unfoldable pub with_past : List ℤ → List ℤ → List ℤ → List ℤ
with_past cs xs past = put_out cs xs past 40

-- 1 / A(z): the subframe's 40 alone
unfoldable pub Syn_filt : List ℤ → List ℤ → List ℤ → List ℤ
Syn_filt cs xs past = part (with_past cs xs past) 10 40

-- Syn_filt by eleven, of a subframe's 40 after ten of the past, with that past, for every list: all 0 where one has another length
unfoldable pub synthesis : List ℤ → List ℤ → List ℤ → List ℤ
synthesis cs xs past =
    cond (eqb (length cs) 11 && eqb (length xs) 40 && eqb (length past) 10) (with_past cs xs past) (replicate 50 (pos 0))
