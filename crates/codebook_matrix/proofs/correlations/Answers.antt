use mir.Syntax.{w32}
use Rattle.fixed.proofs.Bounds.{got}
use Rattle.codebook_matrix.proofs.Sliding.{room}
use Rattle.codebook_matrix.proofs.correlations.Goals as goal

pub plain_correlations-requires : goal.plain_correlations-requires
plain_correlations-requires c =
    room c.args.normalized.now (rw (got w32 c.energy40.type_inv c.energy40.ensures) at c.if-energy40-lt-ROOM.true)
