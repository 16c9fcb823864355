use Rattle.std.proofs.Common.{pos, rules}
use Rattle.fixed.proofs.Made.{made}
use Rattle.codebook_code.specs.Codes.{filtered_at, filtered}
use Rattle.codebook_code.proofs.Pulses.filtered.Goals as goal

pub returns : goal.returns
unfolding filtered
returns c =
    let p = c.args.self in
    made _ (pos 0) (filtered_at p.chosen p.impulse.now p.signs.now) 40 _ (λ k r f' l h. search rules) _ c.from_fn.ensures.items
