pub mod Row
pub mod Ascend
pub mod Digits
pub mod Sort
pub mod Strict
pub mod Differ
pub mod Find
