-- Sharpening: what the contracts of `codebook_sharpening` cite.
pub mod Sharpenings
pub mod Opens
