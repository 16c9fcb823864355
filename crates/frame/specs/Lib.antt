-- A whole frame in one call: what the contracts of `frame` cite, and the statement on refused frames.
pub mod Frames
pub mod Statement
pub mod Opens
