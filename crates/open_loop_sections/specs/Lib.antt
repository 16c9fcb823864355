-- The open-loop lag of a list of words, TS 26.073 Pitch_ol at 7.4 kbit/s: what the contracts of `open_loop_sections` cite.
pub mod Sections
pub mod Opens
