-- The laws that belong to no one function.
pub mod Energies
pub mod Lags
