-- What the contracts of `fixed`, and of the crates above it, cite.
pub mod Clip
pub mod Operators
pub mod Widths
pub mod Line
pub mod Lists
pub mod Opens
