use Rattle.std.proofs.Common.{◌≡◌, ◌≢◌, Option, Some, None, ℕ, List, length, ◌<◌}
use lib.IntN.{ℤ, pos}
use native.Mathlib.Omega.{arith}
use borrow.Author.Tests.{tests}
use borrow.Author.Rules.{rules}
use Rattle.std.proofs.lemmas.Iterator.{YieldsList-from_slice, IsFirst-from_position}
use Rattle.std.specs.List.{AllWithin, HoldsAt}
use Rattle.std.specs.Option.{MatchOption}
use Rattle.fixed.specs.Lists.{at}
use Rattle.gain_choice.proofs.Passes.{found_first}
use Rattle.gain_choice.proofs.first.Goals as goal

-- the elements as the lists of numbers read them
read : (xs : List ℤ) (least : ℤ) (o : Option ℕ) → length xs ≡ 128 →
    MatchOption o (AllWithin (λ z. z ≢ least) xs 0 (length xs)) (λ i. (i < length xs) × HoldsAt (λ z. z ≡ least) xs i × AllWithin (λ z. z ≢ least) xs 0 i) →
    MatchOption o ((k : ℕ) → k < 128 → at xs k ≡ least → ⊥) (λ i. (i < 128) × (at xs i ≡ least) × ((k : ℕ) → k < i → at xs k ≡ least → ⊥))
read xs least (Some i) e (l, is, other) = (omega (arith, e), is (pos 0), λ k h. other k (pos 0) (omega arith) h)
read xs least None e none = λ k h. none k (pos 0) (omega arith) (omega (arith, e))

pub returns : goal.returns
returns c =
    let m = IsFirst-from_position _ _ _ (λ z. z ≡ c.args.least) (λ z. z ≢ c.args.least) c.position.ensures.ran (YieldsList-from_slice c.args.distances.now (cc)) (λ x q k. search (rules, tests)) (λ x q k. search (rules, tests)) in
    rw c.unwrap_or.ensures (found_first (at c.args.distances.now) c.args.least 127 c.position.result c.requires (read c.args.distances.now c.args.least c.position.result c.told-distances m))
