-- The laws that belong to no one function.
pub mod Clips
pub mod Bounds
pub mod Signs
pub mod Shifts
pub mod Norms
pub mod Lines
pub mod Tables
pub mod Lists
pub mod Made
pub mod Choices
pub mod Products
pub mod LowBits
pub mod Sums
pub mod ByHalves
