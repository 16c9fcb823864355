-- Target filtering, TS 26.073 subframePreProc at 7.4 kbit/s: what the contracts of `target_filtering` cite.
pub mod Subframes
