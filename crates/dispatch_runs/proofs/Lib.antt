-- The laws that belong to no one function.
pub mod Places
pub mod Rounds
pub mod Steps
pub mod Turns
pub mod Alone
pub mod Dispatched
pub mod Exemplified
