-- What the contracts of `gain_coefficients` cite.
pub mod Energies
pub mod Opens
