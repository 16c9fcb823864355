-- TS 26.073 cor_h: what the contracts of `codebook_matrix` cite.
pub mod Matrices
pub mod Opens
