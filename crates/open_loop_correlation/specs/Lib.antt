-- TS 26.073 comp_corr: what the contracts of `open_loop_correlation` cite.
pub mod Correlations
pub mod Opens
