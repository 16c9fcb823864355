-- The laws that belong to no one function.
pub mod Plain
pub mod Sums
pub mod Rows
pub mod Quiet
pub mod Reaches
pub mod Reversals
pub mod Walks
pub mod Halves
