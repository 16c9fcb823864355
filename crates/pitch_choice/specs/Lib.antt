-- The choice of a lag and a fraction, TS 26.073 Pitch_fr at 7.4 kbit/s: what the contracts of `pitch_choice` cite.
pub mod Choices
pub mod Opens
