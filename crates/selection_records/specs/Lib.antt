-- 01, 'Feed and program': what the contracts of `selection_records` cite.
pub mod Records
