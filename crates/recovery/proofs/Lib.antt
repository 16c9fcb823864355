-- The proof of the statement, and the example computed.
pub mod Recovered
pub mod Exemplified
pub mod Framed
pub mod Previewed
