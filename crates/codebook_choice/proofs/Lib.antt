-- The laws that belong to no one function.
pub mod Choosing
pub mod Units
pub mod Energies
pub mod Tracks
pub mod Starting
pub mod Trials
