-- One name for an `unfolding` line that computes the definitions of this crate.
use Rattle.lag_reader.specs.Readers.{read}

unfoldable pub reader_opens : Unit {0}
unfolding read
reader_opens = tt
