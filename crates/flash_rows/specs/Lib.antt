pub mod Row
pub mod Step
pub mod Worktable
pub mod WorktableLaws
