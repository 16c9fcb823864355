-- A filtering record whose body has its kind's length, from the words that were read.
use mathlib.Core.Path.{◌≡◌}
use mathlib.Core.List.{List}
use Prim.Native.Nat.{ℕ}
use borrow.Author.Tests.{eq-eqb}
use lib.IntN.{ℤ}
use lib.ListN.{length}
use Rattle.encoder_filtering.specs.Subframes.{lists, prepare}
use Rattle.feed.specs.Words.{words}
use Rattle.selection_records.specs.Records.{zeros, of_filters, filtering}

pub filtering_read : (bs : List ℕ) (old ss cs qs es vs : List ℤ) → length bs ≡ 184 → ss ≡ words bs 0 50 → cs ≡ words bs 100 11 → qs ≡ words bs 122 11 → es ≡ words bs 144 10 → vs ≡ words bs 164 10 →
    of_filters old (prepare ss cs qs es vs (lists zeros zeros zeros zeros)) ≡ filtering old bs
unfolding filtering
filtering_read bs old ss cs qs es vs l p q r s t = rw (eq-eqb (length bs) 184 l, p, q, r, s, t)
