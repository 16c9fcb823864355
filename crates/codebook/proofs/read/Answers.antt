use Rattle.std.proofs.Common.{◌+◌, ◌/◌, ◌%◌, arith}
use Rattle.codebook.proofs.ReadBack.{place_lt}
use Rattle.codebook.proofs.read.Goals as goal

pub write-requires : goal.write-requires
write-requires c =
    let w = c.args.pulse_positions in
    rw c.places_in-places.ensures (c.in_ok-of_length.ensures.ok.0, place_lt w 0 (omega arith), place_lt (w / 8) 1 (omega arith), place_lt (w / 64) 2 (omega arith), place_lt (w / 1024) (3 + w / 512 % 2) (omega arith))
