-- What the contracts of `pitch`, and of the search, the lag reader and recovery over it, cite; and the statement on the index rules.
pub mod Windows
pub mod Kinds
pub mod Indexes
pub mod Statement
