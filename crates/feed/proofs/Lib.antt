-- The laws that belong to no one function.
pub mod Standings
pub mod Wordings
