-- What the contracts of `mr74` cite.
pub mod Details
pub mod Lengths
pub mod OpenLoops
pub mod Pitches
pub mod Frames
pub mod Channels
pub mod Pulses
pub mod Gains
pub mod Stabilities
pub mod Powers
pub mod Records
pub mod Fields
pub mod Steps
