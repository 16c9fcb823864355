-- What the contracts of `gain_choice` cite.
pub mod Rows
pub mod Opens
