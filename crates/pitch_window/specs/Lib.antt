-- A search's window and the choice in it: what the contracts of `pitch_window` cite.
pub mod Opens
pub mod Windows
