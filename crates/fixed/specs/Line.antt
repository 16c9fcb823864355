-- The straight line that TS 26.073's Log2, Pow2 and Inv_sqrt draw between two neighbours of a table.
use Rattle.std.specs.Prelude.{List, ℕ, ◌+◌, ◌-◌, ◌*◌, ◌/◌, ◌%◌, get_or}

-- bits 10 to 24 of m: how far it stands, in 32768ths, on the way from one entry to the next
abbrev pub way : ℕ → ℕ
way m = m / 1024 % 32768

-- the point of that line, times 65536. The standard writes L_msu (L_deposit_h (from), sub (from, to), way): the same number for words that are not
-- negative, by the law `line_standard`
unfoldable pub line : ℕ → ℕ → ℕ → ℕ
line from to m = 2 * (from * (32768 - way m) + to * way m)

-- the line of a table at m: bits 25 and up of m, less those of the least m, choose the entry
unfoldable pub table_line : List ℕ → ℕ → ℕ → ℕ
table_line t least m = line (get_or t (m / 33554432 - least) 0) (get_or t (m / 33554432 - least + 1) 0) m
