-- A sum, or the one that is made anew: by the flag of the first, and by its count.
use mathlib.Core.Path.{◌≡◌, ap, ◌∙◌, sym}
use mathlib.Core.Bool.{true, false}
use mathlib.Core.List.{List}
use Prim.Native.Nat.{◌<◌, ◌≤◌}
use lib.Dec.{ltb}
use lib.IntN.{ℤ, pos}
use borrow.Author.Tests.{lt-ltb, le-ltb}
use Rattle.fixed.specs.declared.Flagged.{Flagged}
use Rattle.gain_sums.specs.declared.Counted.{Counted}
use Rattle.gain_sums.specs.Sums.{sum, flagged_sum, counted_sum}
use Rattle.gain_sums.proofs.Counts.{flag_is}
use Rattle.gain_pitch.specs.Gains.{normalized, unless_overflow}

module _ (s t : Flagged) (lowered : ℤ) (r : Flagged) (e : r ≡ s) where
  pub anew : r.overflow ≡ true → unless_overflow s t lowered ≡ normalized t.value lowered
  unfolding unless_overflow
  anew o = rw (sym (ap (λ (f : Flagged). f.overflow) e) ∙ o)

  pub kept : r.overflow ≡ false → unless_overflow s t lowered ≡ normalized s.value (pos 0)
  unfolding unless_overflow
  kept o = rw (sym (ap (λ (f : Flagged). f.overflow) e) ∙ o)

module _ (xs ys : List ℤ) (t : Flagged) (lowered : ℤ) (r : Counted) (e : r ≡ counted_sum xs ys 40) where
  -- the flag that the count tells
  abbrev flagged : Flagged
  flagged = record { value = sum xs ys 40; overflow = ltb 0 r.clips }

  told : flagged ≡ flagged_sum xs ys 40
  unfolding flagged_sum counted_sum
  told = rw (flag_is xs ys 40 ∙ sym (ap (λ (f : Counted). ltb 0 f.clips) e))

  pub counted_anew : 0 < r.clips → unless_overflow (flagged_sum xs ys 40) t lowered ≡ normalized t.value lowered
  counted_anew o = anew (flagged_sum xs ys 40) t lowered flagged told (lt-ltb 0 r.clips o)

  pub counted_kept : r.clips ≤ 0 → unless_overflow (flagged_sum xs ys 40) t lowered ≡ normalized (sum xs ys 40) (pos 0)
  unfolding flagged_sum
  counted_kept o = kept (flagged_sum xs ys 40) t lowered flagged told (le-ltb 0 r.clips o)
