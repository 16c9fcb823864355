-- What the contracts of `logarithm` cite.
pub mod Logarithms
pub mod Powers
pub mod Opens
