-- A node due, in bytes and on a stack.
pub mod Due
pub mod Stack
-- Whether a node passes, and the nodes due visited one after another.
pub mod Passes
pub mod Pending
pub mod Reached
-- The walk in the work table: what a visit leaves there, and what the visits come to.
pub mod Area
pub mod AreaLaws
pub mod Visit
pub mod Whole
pub mod FirstLeaf
pub mod Verdict
-- A worked case.
pub mod Worked
-- What stands for a node that is none leaves the tree unsound.
pub mod Unsound
