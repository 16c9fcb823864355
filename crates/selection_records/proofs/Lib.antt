-- The laws that belong to no one function.
pub mod Keepings
pub mod Orders
pub mod Readings
