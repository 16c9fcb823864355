-- 02, request 09: what a count of clipped terms says. One statement, of every two lists and every number of terms.
use Rattle.std.specs.Prelude.{◌≡◌, List, [], ◌∷◌, replicate, ℕ, suc, ◌≤◌, ltb, ℤ, pos, negsuc, ◌+ℤ◌, ◌*ℤ◌}
use Rattle.fixed.specs.Operators.{L_mult, L_mac}
use Rattle.fixed.specs.Lists.{at}
use Rattle.gain_sums.specs.Sums.{sum, overflow, clips}

-- no end of a long changes the doubled product of a term, nor the running sum with it
pub record Unclipped (s a b : ℤ) : Type 0 where
  pub product : L_mult a b ≡ pos 2 *ℤ (a *ℤ b)
  pub sum : L_mac s a b ≡ s +ℤ L_mult a b

-- n terms, and one more
pub record CountsClips (xs ys : List ℤ) (n : ℕ) : Type 0 where
  -- 'the number of terms, 0 to 40'
  pub at_most : clips xs ys n ≤ n
  -- 'Flag set means count above 0'
  pub flag : overflow xs ys n ≡ ltb 0 (clips xs ys n)
  -- a term counts where an end changed its product or the sum, 'a term where both were counts once', and no other term counts
  pub counted : (Unclipped (sum xs ys n) (at xs n) (at ys n) → ⊥) → clips xs ys (suc n) ≡ suc (clips xs ys n)
  pub not_counted : Unclipped (sum xs ys n) (at xs n) (at ys n) → clips xs ys (suc n) ≡ clips xs ys n
  -- so a term of 0 does not, wherever the sum stands
  pub zero_term : at xs n *ℤ at ys n ≡ pos 0 → clips xs ys (suc n) ≡ clips xs ys n

unfoldable pub EveryCount : Type 0
EveryCount = (xs ys : List ℤ) (n : ℕ) → CountsClips xs ys n

-- ---- computed, 40 terms each: past the end of a list `at` reads 0
unfoldable pub Examples : Type 0
Examples =
    -- product and sum of one term are clipped, and zeros follow
    (clips (negsuc 32767 ∷ []) (negsuc 32767 ∷ []) 40 ≡ 1)
    -- every term
    × (clips (replicate 40 (negsuc 32767)) (replicate 40 (negsuc 32767)) 40 ≡ 40)
    -- 2147483647 is reached exactly
    × (sum (pos 32767 ∷ pos 32767 ∷ []) (pos 32767 ∷ pos 2 ∷ []) 40 ≡ pos 2147483647)
    × (clips (pos 32767 ∷ pos 32767 ∷ []) (pos 32767 ∷ pos 2 ∷ []) 40 ≡ 0)
    -- clipped, then down by 2, up by 2 to the end exactly, and clipped again
    × (clips (negsuc 32767 ∷ negsuc 0 ∷ pos 1 ∷ pos 1 ∷ []) (negsuc 32767 ∷ pos 1 ∷ pos 1 ∷ pos 1 ∷ []) 40 ≡ 2)
    -- at the upper end, and three terms later at the lower
    × (clips (replicate 4 (negsuc 32767)) (negsuc 32767 ∷ replicate 3 (pos 32767)) 40 ≡ 2)
