-- The sums of Syn_filt by one tap more, and the samples that it has put out.
use mathlib.Core.Path.{◌≡◌, refl, sym, ap, ◌∙◌}
use mathlib.Core.List.{List, [], ◌∷◌}
use Prim.Native.Nat.{ℕ, zero, suc, ◌+◌, ◌-◌, ◌≤◌, ◌<◌}
use native.Mathlib.Omega.{arith}
use native.Mathlib.Numerals.{add-one}
use lib.IntN.{ℤ, pos}
use lib.ListN.{length, length-append, get_or-append}
use lib.Seq.{get_or-append_seam}
use Rattle.fixed.specs.Operators.{L_mult, L_msu}
use Rattle.fixed.specs.Lists.{at, part}
use Rattle.fixed.proofs.Lists.{length_tabulate, at_tabulate}
use Rattle.synthesis_filter.specs.Synthesis.{less_past, synthesized, one_more, put_out}

module _ (cs : List ℤ) where
  -- a tap more
  pub less_more : (ys : List ℤ) (place : ℕ) (s : ℤ) (n : ℕ) → L_msu (less_past cs ys place s n) (at cs (n + 1)) (at ys (place - (n + 1))) ≡ less_past cs ys place s (n + 1)
  unfolding less_past
  less_more ys place s n = rw (add-one n)

  -- only the samples before the place count
  less_same : (ys zs : List ℤ) (place : ℕ) (s : ℤ) (n : ℕ) → n ≤ place → ((k : ℕ) → k < place → at ys k ≡ at zs k) → less_past cs ys place s n ≡ less_past cs zs place s n
  unfolding less_past
  less_same ys zs place s zero h p = refl
  less_same ys zs place s (suc n) h p = rw (less_same ys zs place s n (omega arith) p, p (place - suc n) (omega arith))

  pub synthesized_same : (x : ℤ) (ys zs : List ℤ) (place : ℕ) → 10 ≤ place → ((k : ℕ) → k < place → at ys k ≡ at zs k) → synthesized cs x ys place ≡ synthesized cs x zs place
  unfolding synthesized
  synthesized_same x ys zs place h p = rw (less_same ys zs place (L_mult x (at cs 0)) 10 h p)

  module _ (xs past : List ℤ) where
    pub put_out_length : (n : ℕ) → length (put_out cs xs past n) ≡ 10 + n
    unfolding put_out part one_more
    put_out_length zero = length_tabulate (λ k. at past (0 + k)) (pos 0) 10
    put_out_length (suc n) = length-append (put_out cs xs past n) (synthesized cs (at xs n) (put_out cs xs past n) (10 + n) ∷ []) ∙ rw (put_out_length n) (omega arith)

    -- first the past
    pub put_out_past : (k : ℕ) → k < 10 → at past k ≡ at (put_out cs xs past 0) k
    unfolding put_out part
    put_out_past k h = let z : k ≡ 0 + k = omega arith in ap (at past) z ∙ sym (at_tabulate (λ i. at past (0 + i)) (pos 0) 10 k h)

    -- what was put out stays
    pub put_out_before : (n k : ℕ) → k < 10 + n → at (put_out cs xs past (n + 1)) k ≡ at (put_out cs xs past n) k
    unfolding put_out one_more
    put_out_before n k h =
        rw (add-one n)
        (get_or-append (put_out cs xs past n) (synthesized cs (at xs n) (put_out cs xs past n) (10 + n) ∷ []) (pos 0) k (omega (arith, put_out_length n)))

    -- and one sample comes after it
    pub put_out_last : (n : ℕ) → at (put_out cs xs past (n + 1)) (10 + n) ≡ synthesized cs (at xs n) (put_out cs xs past n) (10 + n)
    unfolding put_out one_more
    put_out_last n =
        rw (add-one n)
        (rw (put_out_length n) at (get_or-append_seam (put_out cs xs past n) (synthesized cs (at xs n) (put_out cs xs past n) (10 + n)) [] (pos 0)))
