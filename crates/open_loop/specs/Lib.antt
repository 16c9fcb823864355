-- The open-loop lag detector, TS 26.073 Pitch_ol at 7.4 kbit/s: what the contracts of `open_loop` cite, and the statement on the cut.
pub mod Detectors
pub mod Statement
pub mod Opens
