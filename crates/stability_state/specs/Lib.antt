-- What the contracts of `stability_state`, and of the entries that take such a state, cite.
pub mod Calls
