use mathlib.Core.Path.{◌≡◌, ◌∙◌}
use native.Mathlib.Omega.{arith}
use borrow.Author.Rules.{rules}
use lib.IntN.{pos}
use mir.Syntax.{w32}
use mir.Val.{to_z, of_z}
use Rattle.fixed.specs.Lists.{at}
use Rattle.fixed.proofs.Bounds.{got}
use Rattle.fixed.proofs.Made.{made}
use Rattle.open_loop_correlation.specs.Correlations.{products}
use Rattle.open_loop_correlation.proofs.Energies.{energy_within}
use Rattle.open_loop_sections.specs.Sections.{scaled, scaled_all}
use Rattle.open_loop_sections.proofs.scaled_all.Goals as goal

pub returns : goal.returns
unfolding scaled_all
returns c =
    let xs = c.args.input.now in
    let e = c.energy-energy in
    let q : to_z w32 (of_z w32 e.result) ≡ products xs 0 0 223 = got w32 e.type_inv (e.ensures ∙ energy_within xs 0 223 (omega arith)) in
    rw (← q) (made _ (pos 0) (λ k. scaled (to_z w32 (of_z w32 e.result)) (at xs k)) 223 _ (λ k r f' l h. search rules) _ c.from_fn.ensures.items)
