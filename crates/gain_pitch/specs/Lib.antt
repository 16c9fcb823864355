-- What the contracts of `gain_pitch` cite.
pub mod Gains
pub mod Opens
