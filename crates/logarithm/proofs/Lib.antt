-- The laws that belong to no one function.
pub mod Powers
pub mod Pairs
