-- What the contracts of `gain_table` cite.
pub mod Rows
pub mod Opens
