-- What the contract of `codebook_search` cites.
pub mod Opens
pub mod Pulses
