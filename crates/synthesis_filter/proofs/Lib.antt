-- The laws that belong to no one function.
pub mod Samples
pub mod Plainly
pub mod Lengths
