-- What the contracts of `encoder_stability` cite, the statements on a stage and on the calls since fresh, and examples computed.
pub mod Watch
pub mod Statement
pub mod Runs
pub mod Opens
pub mod Example
