-- TS 26.073 set_sign: the signs of the pulses, the magnitudes, and where a pulse may start.
use Rattle.std.specs.Prelude.{Bool, cond, ◌&&◌, List, ℕ, zero, suc, ◌+◌, ◌*◌, ◌/◌, ℤ, pos, negsuc, set}
use Rattle.std.specs.Int.Signed.{lt_z, le_z}
use Rattle.fixed.specs.Operators.{abs_s}
use Rattle.fixed.specs.Lists.{at, tabulate}
use Rattle.codebook_target.specs.declared.Smallest.{Smallest}

-- 'set sign according to dn[]': 32767 at 0 and above, else -32767
abbrev pub sign_of : ℤ → ℤ
sign_of v = cond (lt_z v (pos 0)) (negsuc 32766) (pos 32767)

-- and so every place
unfoldable pub signs_of : List ℤ → List ℤ
signs_of cs = tabulate (λ i. sign_of (at cs i)) 40

-- 'modify dn[] according to the fixed sign': the magnitudes
unfoldable pub magnitudes_of : List ℤ → List ℤ
magnitudes_of cs = tabulate (λ i. abs_s (at cs i)) 40

-- ---- 01: 'Per track the four smallest magnitudes, the lower place first on a tie, lose the right to start'. A place that lost it holds -1 ('dn2')
-- the smallest so far and its place: a place that is left and holds less takes over
unfoldable pub lesser : Smallest → ℕ → ℤ → Smallest
lesser held i v = cond (le_z (pos 0) v && lt_z v held.value) (record { place = i; value = v }) held

-- among the first n places of a track. 01: '32767 is never found smallest; where none is found, the last place dropped, in whichever track, is marked anew'
unfoldable pub least : List ℤ → ℕ → ℕ → ℕ → Smallest
least left last track zero = record { place = last; value = pos 32767 }
least left last track (suc n) = lesser (least left last track n) (track + 5 * n) (at left (track + 5 * n))

-- the magnitudes with -1 at the places dropped, and the last of these
pub record Left : Type 0 where
  pub words : List ℤ
  pub last : ℕ

-- a place is dropped
unfoldable pub without : List ℤ → ℕ → Left
without left p = record { words = set left p (negsuc 0); last = p }

-- a track loses one
unfoldable pub drop_one : Left → ℕ → Left
drop_one d track = without d.words (least d.words d.last track 8).place

-- the first n drops, four in a track, one track after the other; '(place 0 at the very first)'
unfoldable pub dropped : List ℤ → ℕ → Left
dropped mags zero = record { words = mags; last = 0 }
dropped mags (suc n) = drop_one (dropped mags n) (n / 4)

-- set_sign: all twenty
unfoldable pub set_sign : List ℤ → List ℤ
set_sign mags = (dropped mags 20).words

-- a pulse may start at a place that was not dropped
abbrev pub may_start : List ℤ → ℕ → Bool
may_start left i = le_z (pos 0) (at left i)

-- how many of the first n places of a track may start
unfoldable pub starts_in : List ℤ → ℕ → ℕ → ℕ
starts_in left track zero = 0
starts_in left track (suc n) = starts_in left track n + cond (may_start left (track + 5 * n)) 1 0
