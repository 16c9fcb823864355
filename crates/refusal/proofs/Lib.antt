-- The laws that belong to no one function.
pub mod Answers
pub mod Checkings
pub mod Pairs
