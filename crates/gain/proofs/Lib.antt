-- The laws that belong to no one function.
pub mod Chosen
pub mod Pairs
pub mod Limits
pub mod Counts
