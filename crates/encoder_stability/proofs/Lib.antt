-- The laws that belong to no one function.
pub mod Gaps
pub mod Stages
pub mod Rows
pub mod Calls
pub mod Computed
