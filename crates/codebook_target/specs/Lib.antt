-- TS 26.073 cor_h_x and set_sign: what the contracts of `codebook_target` cite.
pub mod Targets
pub mod Starts
pub mod Opens
