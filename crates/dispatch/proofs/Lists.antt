-- One record of a list that is changed.
use mathlib.Core.Path.{◌≡◌}
use mathlib.Core.List.{List, [], ◌∷◌}
use Prim.Native.Nat.{ℕ, zero, suc, ◌<◌}
use native.Mathlib.Omega.{arith}
use lib.ListN.{length, set, get_or}
use Rattle.dispatch.specs.Services.{alter}

-- a record changed is the record that is read, changed and written back
pub altered : {R : Type 0} (f : R → R) (k : ℕ) (cs : List R) (c : R) → k < length cs → c ≡ get_or cs k c → alter f k cs ≡ set cs k (f c)
altered f k [] c l e = absurd (omega (arith, l))
altered f zero (b ∷ cs) c l e = rw e
altered f (suc k) (b ∷ cs) c l e = let h : k < length cs = omega (arith, l) in rw (altered f k cs c h e)
