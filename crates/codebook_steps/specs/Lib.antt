-- TS 26.073 search_4i40: what the contracts of `codebook_steps` cite.
pub mod Opens
pub mod Steps
