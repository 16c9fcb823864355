-- 01, 'Feed and program': what the contracts of `selection` cite.
pub mod Steps
