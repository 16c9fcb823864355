-- What the contracts of `gain_sums` cite, and the statement on the counts.
pub mod Sums
pub mod Statement
pub mod Opens
