-- What the contracts of `energy` cite.
pub mod Root
pub mod Opens
