-- What the contracts of `refusal`, and of every entry that refuses, cite.
pub mod Refused
pub mod Checks
