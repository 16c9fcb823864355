-- What the contracts of `pitch_state`, and of every entry that takes such a state, cite.
pub mod States
pub mod Calls
