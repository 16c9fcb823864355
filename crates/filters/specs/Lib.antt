-- The linear prediction filter A(z), TS 26.073 Weight_Ai and Residu: what the contracts of `filters` cite.
pub mod Filters
