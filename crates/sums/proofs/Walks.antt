-- One walk over a list that carries two sums: its energy, and its sum with another list.
use mathlib.Core.Path.{◌≡◌}
use mathlib.Core.List.{List}
use Prim.Native.Nat.{ℕ}
use lib.IntN.{ℤ}
use Rattle.fixed.specs.Lists.{dot}

-- 02: 'After every place both are shown equal to the two separate sums so far'. After n places, what is carried read as longs
abbrev pub Carried : List ℤ → List ℤ → ℕ → ℤ → ℤ → Type 0
Carried xs ys n energy sum = (energy ≡ dot xs xs n) × (sum ≡ dot xs ys n)
