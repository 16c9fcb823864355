-- TS 26.073 build_code and code_4i40_17bits: what the contracts of `codebook_code` cite.
pub mod Codes
pub mod Opens
