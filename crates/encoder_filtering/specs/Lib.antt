-- The entries of target filtering: what the contracts of `encoder_filtering` cite.
pub mod Subframes
