-- The laws that belong to no one function.
pub mod Indexings
pub mod LagChecks
pub mod Uppers
