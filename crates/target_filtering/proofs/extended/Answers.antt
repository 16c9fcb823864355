use mathlib.Core.Path.{◌≡◌, ap, ◌∙◌}
use mathlib.Core.List.{◌++◌}
use Prim.Native.Nat.{◌+◌}
use native.Mathlib.Omega.{arith}
use lib.IntN.{pos}
use lib.ListN.{replicate, length-append}
use Rattle.fixed.specs.Lists.{at, part}
use Rattle.fixed.proofs.Lists.{filled_all, zeros_after}
use Rattle.target_filtering.proofs.extended.Goals as goal

pub returns : goal.returns
unfolding part
returns c =
    let cs = c.args.coefficients.now in
    rw c.copy_from_slice.ensures.after
    (filled_all (λ k. at cs (0 + k)) (pos 0) 40 (cs ++ replicate 29 (pos 0)) (length-append cs (replicate 29 (pos 0)) ∙ rw c.told-coefficients) (λ k l. let z : k ≡ 0 + k = omega arith in zeros_after cs 29 k ∙ ap (at cs) z))
