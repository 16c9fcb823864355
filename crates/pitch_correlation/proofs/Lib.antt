-- The laws that belong to no one function.
pub mod Filterings
pub mod Growth
