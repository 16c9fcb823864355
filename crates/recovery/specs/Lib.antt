-- What a lag reader recovers from the indexes of a pitch search: the list, its run, the statement, that of the windows' starts, examples, frames as single searches, and the list with previews in it.
pub mod Runs
pub mod Statement
pub mod Windows
pub mod Example
pub mod Frames
pub mod Previews
