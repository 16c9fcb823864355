-- What the operators of one width are, a word's or a long's: each the clipped number.
use Rattle.std.specs.Prelude.{◌≡◌, refl, true, ℕ, leb, ℤ, pos, neg_ℤ, nat_abs, ◌+ℤ◌, ◌-ℤ◌}
use Rattle.fixed.specs.Clip.{clip}
use Rattle.fixed.specs.Operators.{add, sub, negate, abs_s, L_add, L_sub, L_negate, L_abs}

pub record Operators (k : ℕ) (sum difference : ℤ → ℤ → ℤ) (opposite magnitude : ℤ → ℤ) : Type 0 where
  pub width : leb k 31 ≡ true
  pub sums : (a b : ℤ) → sum a b ≡ clip k (a +ℤ b)
  pub differences : (a b : ℤ) → difference a b ≡ clip k (a -ℤ b)
  pub opposites : (a : ℤ) → opposite a ≡ clip k (neg_ℤ a)
  pub magnitudes : (a : ℤ) → magnitude a ≡ clip k (pos (nat_abs a))

pub of_words : Operators 15 add sub negate abs_s
unfolding add sub negate abs_s
of_words = record { width = refl; sums = λ a b. refl; differences = λ a b. refl; opposites = λ a. refl; magnitudes = λ a. refl }

pub of_longs : Operators 31 L_add L_sub L_negate L_abs
unfolding L_add L_sub L_negate L_abs
of_longs = record { width = refl; sums = λ a b. refl; differences = λ a b. refl; opposites = λ a. refl; magnitudes = λ a. refl }
