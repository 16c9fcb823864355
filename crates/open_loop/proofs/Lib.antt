-- The laws that belong to no one function.
pub mod Lengths
pub mod Uncut
