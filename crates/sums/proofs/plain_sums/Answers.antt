use mathlib.Core.Path.{◌≡◌, refl, ◌∙◌}
use Prim.Native.Nat.{◌+◌, ◌-◌, ◌<◌}
use native.Mathlib.Omega.{arith}
use lib.IntN.{pos, ◌*ℤ◌}
use borrow.Author.Rules.{rules}
use Rattle.std.proofs.lemmas.Fn.{serves_by}
use Rattle.fixed.specs.Lists.{at, tabulate, between}
use Rattle.fixed.proofs.Made.{made}
use Rattle.sums.specs.Plain.{plain}
use Rattle.sums.specs.Convolutions.{convolution}
use Rattle.sums.proofs.Reversals.{weighed_reversed, sum_reversed}
use Rattle.sums.proofs.plain_sums.Goals as goal

pub from_fn-requires : goal.from_fn-requires
from_fn-requires c =
    let a = c.args in (
      omega arith,
      serves_by _ (λ xs q. (q.0.now ≡ a.input.now) × (q.1.now ≡ tabulate (between (λ j. at a.impulse.now (39 - j)) (λ j. pos 0) 0 40) 80)) (λ xs q x v e r. let s : v ≡ q = search rules in rw s e) _ _ _ _ (refl, c.reversed-reversed.ensures) (λ xs t q x u y st e.
          let h : x < 40 = omega (arith, st.0, st.1) in
          (λ κ r n z w. omega (arith, h), λ κ r n z w b. (omega (arith, h), rw (e.0, e.1, weighed_reversed a.input.now a.impulse.now x h) (c.requires x h)))),
    )

pub returns : goal.returns
returns c =
    let a = c.args in
    made _ (pos 0) (convolution a.input.now a.impulse.now) 40 _ (λ k r f' l h.
    let s : (r ≡ pos 2 *ℤ plain (at a.input.now) (λ j. at c.reversed-reversed.result (39 - k + j)) 40) = search rules in
    let o : f' ≡ _ = search rules in
    (rw c.reversed-reversed.ensures at s ∙ sum_reversed a.input.now a.impulse.now k l (c.requires k l), o)) _ c.from_fn.ensures.items
