-- The laws that belong to no one function.
pub mod Leasts
pub mod Passes
pub mod Terms
pub mod Chosen
pub mod Codes
