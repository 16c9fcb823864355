-- How long the lists are that Syn_filt takes and puts out.
use mathlib.Core.Path.{◌≡◌}
use mathlib.Core.List.{List}
use Prim.Native.Nat.{◌+◌}
use lib.IntN.{ℤ, pos}
use lib.ListN.{length}
use borrow.Author.Tests.{eq-eqb}
use Rattle.fixed.specs.Lists.{at, part}
use Rattle.fixed.proofs.Lists.{length_tabulate}
use Rattle.synthesis_filter.specs.Synthesis.{with_past, Syn_filt, synthesis}
use Rattle.synthesis_filter.proofs.Samples.{put_out_length}

-- ---- what is put out
pub past_length : (cs xs past : List ℤ) → length (with_past cs xs past) ≡ 50
unfolding with_past
past_length cs xs past = put_out_length cs xs past 40

pub syn_length : (cs xs past : List ℤ) → length (Syn_filt cs xs past) ≡ 40
unfolding Syn_filt part
syn_length cs xs past = length_tabulate (λ k. at (with_past cs xs past) (10 + k)) (pos 0) 40

-- ---- lists as long as the filter takes them
pub synthesis_whole : (cs xs past : List ℤ) → length cs ≡ 11 → length xs ≡ 40 → length past ≡ 10 → synthesis cs xs past ≡ with_past cs xs past
unfolding synthesis
synthesis_whole cs xs past e f g = rw (eq-eqb (length cs) 11 e, eq-eqb (length xs) 40 f, eq-eqb (length past) 10 g)

-- and the 40 after the past
pub synthesis_put_out : (cs xs past : List ℤ) → length cs ≡ 11 → length xs ≡ 40 → length past ≡ 10 → part (synthesis cs xs past) 10 40 ≡ Syn_filt cs xs past
unfolding Syn_filt
synthesis_put_out cs xs past e f g = rw (synthesis_whole cs xs past e f g)
