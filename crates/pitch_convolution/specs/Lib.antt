-- TS 26.073 Convolve: what the contracts of `pitch_convolution` cite.
pub mod Filters
pub mod Opens
