use mathlib.Core.Path.{◌∙◌}
use lib.IntN.{pos}
use mir.Syntax.{w16, w32}
use borrow.Author.Rules.{rules}
use Rattle.fixed.specs.Operators.{L_shl, round}
use Rattle.fixed.specs.Lists.{at}
use Rattle.fixed.proofs.Bounds.{got}
use Rattle.fixed.proofs.Made.{made}
use Rattle.codebook_target.specs.Targets.{normalised, cor_h_x}
use Rattle.codebook_target.proofs.target_correlation.Goals as goal

pub returns : goal.returns
unfolding normalised cor_h_x
returns c =
    let raw = c.raw_correlations-raw.result in
    made _ (pos 0) (λ k. round (L_shl (at raw k) c.sub-shift.result)) 40 _ (λ k r f' l h. search rules) _ c.from_fn.ensures.items
    ∙ rw (c.sub-shift.ensures, got w16 c.normalize.type_inv c.normalize.ensures, got w32 c.total.type_inv c.total.ensures, c.raw_correlations-raw.ensures)
