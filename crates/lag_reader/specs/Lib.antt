-- The lag reader of 01: what the contracts of `lag_reader`, and of recovery over it, cite.
pub mod Readers
pub mod Statement
pub mod Opens
