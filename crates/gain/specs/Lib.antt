-- What the contracts of `gain` cite, and the statements on the limit and on the innovation's energy.
pub mod Rows
pub mod Statement
pub mod Opens
