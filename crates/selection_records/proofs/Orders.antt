-- What a record with two things wrong is refused for.
use mathlib.Core.Path.{◌≡◌}
use mathlib.Core.Bool.{true, false}
use mathlib.Core.List.{List}
use Prim.Native.Nat.{ℕ}
use borrow.Author.Tests.{eq-eqb}
use lib.Dec.{leb}
use lib.IntN.{pos}
use lib.ListN.{length, get_or}
use Rattle.refusal.specs.Refused.{refused}
use Rattle.refusal.specs.Checks.{within}
use Rattle.pitch.specs.Kinds.{upper_samples}
use Rattle.pitch_search.specs.declared.Search.{Search}
use Rattle.pitch_search.specs.Searches.{Pitch_fr}
use Rattle.gain.specs.Rows.{quantize}
use Rattle.feed.specs.Words.{words}
use Rattle.feed.proofs.Wordings.{words_length}
use Rattle.selection_records.specs.Records.{pitch, gain}

module _ (bs : List ℕ) where
  -- both lags of a pitch record are checked, whichever its subframe uses, against the searcher's upper lag
  pub second_lag_checked : (s : Search) → length bs ≡ 551 → within 1 4 (get_or bs 0 0) ≡ true →
      within 20 (upper_samples s.upper) (get_or bs 549 0) ≡ true → within 20 (upper_samples s.upper) (get_or bs 550 0) ≡ false →
      (pitch s bs).answer ≡ refused 3 (pos (get_or bs 550 0))
  unfolding pitch Pitch_fr
  second_lag_checked s whole n first second =
      rw (
        eq-eqb (length bs) 551 whole,
        eq-eqb (length (words bs 1 194)) 194 (words_length bs 1 194),
        eq-eqb (length (words bs 389 40)) 40 (words_length bs 389 40),
        eq-eqb (length (words bs 469 40)) 40 (words_length bs 469 40),
        n,
        first,
        second,
      )

  -- a gain record with a bad limit gets number 2, whatever its exponent and its fraction
  pub limit_first : length bs ≡ 245 → leb (get_or bs 244 0) 1 ≡ false → gain bs ≡ refused 2 (pos (get_or bs 244 0))
  unfolding gain quantize
  limit_first whole bad =
      rw (
        eq-eqb (length bs) 245 whole,
        eq-eqb (length (words bs 0 40)) 40 (words_length bs 0 40),
        eq-eqb (length (words bs 80 40)) 40 (words_length bs 80 40),
        eq-eqb (length (words bs 160 40)) 40 (words_length bs 160 40),
        bad,
      )
