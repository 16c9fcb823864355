-- 01, 'Feed and program': 'Words are two bytes, high first'.
use Rattle.std.specs.Prelude.{cond, List, ℕ, ◌+◌, ◌*◌, ◌/◌, ◌%◌, leb, ℤ, pos, length, get_or}
use Rattle.fixed.specs.Operators.{extract_l, remainder}
use Rattle.fixed.specs.Lists.{tabulate}

-- the two bytes at a place as one number: 'unsigned fraction'
abbrev pub number_at : List ℕ → ℕ → ℕ
number_at bytes at = get_or bytes at 0 * 256 + get_or bytes (at + 1) 0

-- and as a word; 01: 'A *word* is 16-bit signed'
abbrev pub word_at : List ℕ → ℕ → ℤ
word_at bytes at = extract_l (pos (number_at bytes at))

-- a word with its two bytes exchanged
unfoldable pub swapped : ℤ → ℤ
swapped v = extract_l (pos (remainder v 65536 % 256 * 256 + remainder v 65536 / 256))

-- n words from a place on
unfoldable pub words : List ℕ → ℕ → ℕ → List ℤ
words bytes from n = tabulate (λ k. word_at bytes (from + 2 * k)) n

-- a list into which words are read; where the bytes are too few it stays
unfoldable pub words_into : List ℕ → ℕ → List ℤ → List ℤ
words_into bytes from xs = cond (leb (from + 2 * length xs) (length bytes)) (words bytes from (length xs)) xs
