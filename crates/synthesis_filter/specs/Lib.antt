-- The synthesis filter 1 / A(z), TS 26.073 Syn_filt: what the contracts of `synthesis_filter` cite.
pub mod Synthesis
pub mod Plain
