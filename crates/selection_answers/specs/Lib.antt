-- 01, 'Feed and program': what the contracts of `selection_answers` cite.
pub mod Lines
