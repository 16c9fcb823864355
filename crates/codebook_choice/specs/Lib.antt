-- TS 26.073 search_4i40: what the contracts of `codebook_choice` cite.
pub mod Choices
pub mod Opens
