-- 02, request 14: the cut to 16 bits changes nothing. One statement, on every history and half frame.
use Rattle.std.specs.Prelude.{◌≡◌, List, ℕ, ℤ, pos, negsuc, replicate, ◌≤ℤ◌}
use Rattle.fixed.specs.Lists.{Words}
use Rattle.open_loop_correlation.specs.Correlations.{correlation}
use Rattle.open_loop_sections.specs.Sections.{scaled_all, long_at, value_at}
use Rattle.open_loop.specs.declared.Detector.{Detector}
use Rattle.open_loop.specs.Detectors.{joined}

-- 02: 'for every history and half frame the long before the cut already lies between −32768 and 32767, clipped sums included, so that cutting changes
-- nothing'. The 223 words are scaled as 01 says, and correlation and energy are the clipped sums; it holds for every lag, so for the best of each section
unfoldable pub CutChangesNothing : Type 0
CutChangesNothing =
    (d : Detector) (new : List ℤ) → Words d.history_q0 → Words new → (lag : ℕ) →
    let xs = scaled_all (joined d.history_q0 new) in
    (negsuc 32767 ≤ℤ long_at xs lag) × (long_at xs lag ≤ℤ pos 32767) × (value_at xs lag ≡ long_at xs lag)

-- ---- computed
-- a half frame of -32768 behind a history of one word
abbrev pub behind : ℤ → List ℤ
behind v = joined (replicate 143 v) (replicate 80 (negsuc 32767))

-- behind -26214 the correlation is clipped, and the long is 25904. Behind -1 the words as they came in, not scaled, have the long 207240, and the cut
-- changes it
unfoldable pub Examples : Type 0
Examples =
    (correlation (scaled_all (behind (negsuc 26213))) 100 ≡ pos 2147483647)
    × (long_at (scaled_all (behind (negsuc 26213))) 100 ≡ pos 25904)
    × (long_at (behind (negsuc 0)) 100 ≡ pos 207240)
    × (value_at (behind (negsuc 0)) 100 ≡ pos 10632)
