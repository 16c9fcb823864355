-- The laws that belong to no one function.
pub mod Outcomes
pub mod Starts
pub mod Shown
