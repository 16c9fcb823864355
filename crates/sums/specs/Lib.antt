-- What the contracts of `sums`, and private contracts above it, cite.
pub mod Plain
pub mod Convolutions
pub mod Opens
