-- Words: how many, and that they are read where the bytes are there.
use mathlib.Core.Path.{◌≡◌, refl, sym, ap, ◌∙◌}
use mathlib.Core.Bool.{Bool, true, false}
use mathlib.Core.List.{List}
use Prim.Native.Nat.{ℕ, suc, ◌+◌, ◌-◌, ◌*◌, ◌/◌, ◌%◌, ◌<◌, ◌≤◌}
use native.Mathlib.Omega.{arith}
use borrow.Author.Tests.{le-leb, ltb-true, ltb-false}
use lib.Dec.{ltb}
use lib.IntN.{ℤ, pos, negsuc, nat_abs, ◌+ℤ◌, ◌-ℤ◌}
use lib.ListN.{length}
use lib.Signed.{lt_z}
use mir.Syntax.{w16}
use mir.Val.{SFits}
use Rattle.fixed.specs.Operators.{extract_l, remainder}
use Rattle.fixed.proofs.Clips.{contradiction}
use Rattle.fixed.proofs.Signs.{sub_le, pos_sub, sub_above, remainder_lt}
use Rattle.fixed.proofs.Lists.{length_tabulate}
use Rattle.feed.specs.Words.{word_at, words, words_into, swapped}

pub words_read : (bytes : List ℕ) (from n : ℕ) (xs : List ℤ) → length xs ≡ n → from + 2 * n ≤ length bytes → words_into bytes from xs ≡ words bytes from n
unfolding words_into
words_read bytes from n xs e h = rw (e, le-leb (from + 2 * n) (length bytes) h)

pub words_length : (bytes : List ℕ) (from n : ℕ) → length (words bytes from n) ≡ n
unfolding words
words_length bytes from n = length_tabulate (λ k. word_at bytes (from + 2 * k)) (pos 0) n

-- ---- the bits of a word as an unsigned number
pub bits_below : (z : ℤ) → SFits w16 z → lt_z z (pos 0) ≡ true → z +ℤ pos 65536 ≡ pos (remainder z 65536)
bits_below (pos n) f e = absurd (omega (arith, ltb-true n 0 e))
bits_below (negsuc n) f e = let h = f.sfits in sub_le 65536 (suc n) (omega arith) ∙ ap pos (omega arith)

pub bits_above : (z : ℤ) → SFits w16 z → lt_z z (pos 0) ≡ false → nat_abs z ≡ remainder z 65536
bits_above (pos n) f e = let h = f.sfits in omega arith
bits_above (negsuc n) f e = contradiction (sym e)

pub bits_fit : (z : ℤ) → remainder z 65536 < 65536
bits_fit z = remainder_lt 65536 z (omega arith)

-- and back
bits_of_word : (n : ℕ) → n < 65536 → remainder (extract_l (pos n)) 65536 ≡ n
unfolding extract_l
bits_of_word n h = go (ltb n 32768) refl
  where
    go : (t : Bool) → ltb n 32768 ≡ t → remainder (pos ((n + 32768) % 65536) -ℤ pos 32768) 65536 ≡ n
    go true q =
        let l = ltb-true n 32768 q in
        let e : (n + 32768) % 65536 ≡ n + 32768 = omega arith in
        rw (e, pos_sub (n + 32768) 32768 (omega arith)) (omega arith)
    go false q =
        let l = ltb-false n 32768 q in
        let e : (n + 32768) % 65536 ≡ n - 32768 = omega arith in
        rw (e, sub_above (n - 32768) 32768 (omega arith)) (omega arith)

-- a word of two bytes, exchanged
pub swapped_word : (a b : ℕ) → a < 256 → b < 256 → swapped (extract_l (pos (b * 256 + a))) ≡ extract_l (pos (a * 256 + b))
unfolding swapped
swapped_word a b h l =
    let n = b * 256 + a in
    let e : n % 256 ≡ a = omega arith in
    let f : n / 256 ≡ b = omega arith in
    rw (bits_of_word n (omega arith), e, f)
