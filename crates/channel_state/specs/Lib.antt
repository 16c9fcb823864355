-- 02, request 11, for callers in C and Rust: a channel record in numbers.
pub mod Kinds
