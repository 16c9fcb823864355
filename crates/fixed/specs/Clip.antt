-- 01: 'clipped', held to a type's ends. A two's complement number of k + 1 bits ends at -2 ^ k and at 2 ^ k - 1; a *word* has k = 15, a *long* k = 31.
-- An integer is `pos n`, which is n, or `negsuc n`, which is -(n + 1): the lower end -2 ^ k is `negsuc (2 ^ k - 1)`.
use Rattle.std.specs.Prelude.{ℕ, ◌-◌, ◌^◌, min, ℤ, pos, negsuc}

abbrev pub clip : ℕ → ℤ → ℤ
clip k (pos n) = pos (min n (2 ^ k - 1))
clip k (negsuc n) = negsuc (min n (2 ^ k - 1))
