-- The laws that belong to no one function.
pub mod Filling
pub mod Entries
pub mod Sliding
pub mod SignProducts
pub mod Scaling
