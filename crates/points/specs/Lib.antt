-- The bench points (M of 01), as one table and one statement.
pub mod Answer
pub mod Table
