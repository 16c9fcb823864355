-- Runs of a dispatcher: steps, marks and tellings; the statements on them, fairness and isolation; and computed runs.
pub mod Runs
pub mod Statement
pub mod Example
