-- What the contracts of `frame_state`, and of the entry that takes such a state, cite.
pub mod Calls
