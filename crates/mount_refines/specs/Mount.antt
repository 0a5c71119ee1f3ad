-- Questions 5 and 6.
pub mod Refusals
-- A pool that has passed them: its rows, a node of it, question 7.
pub mod Known
pub mod Rows
pub mod AnyNode
pub mod Tree
-- A pool that opens.
pub mod Opens
