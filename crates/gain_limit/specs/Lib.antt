-- What the contracts of `gain_limit` cite.
pub mod Limits
