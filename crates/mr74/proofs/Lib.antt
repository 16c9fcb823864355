-- The laws that belong to no one function.
pub mod Checkings
pub mod Lengths
