-- What the contracts of `feed_lines` cite.
pub mod Endings
pub mod Printed
