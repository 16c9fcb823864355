-- The laws that belong to no one function.
pub mod Plains
pub mod Squares
pub mod Counts
