-- The two words of a codebook entry, TS 26.073 at 7.4 kbit/s: what the contracts of `codebook` and of `codebook_search` cite.
pub mod Gray
pub mod Words
pub mod Readers
pub mod Opens
