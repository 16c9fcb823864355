-- TS 26.073 Norm_Corr: what the contracts of `pitch_correlation` cite.
pub mod Correlations
pub mod Opens
