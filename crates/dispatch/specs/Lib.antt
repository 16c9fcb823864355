-- 02, request 11: what the contracts of `dispatch` cite.
pub mod Services
pub mod Channels
