-- 01, 'Feed and program': what the contracts of `feed` cite.
pub mod Records
pub mod Words
