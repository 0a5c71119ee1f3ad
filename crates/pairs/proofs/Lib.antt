pub mod Ceiling
pub mod LocalEdit
pub mod MapLaws
pub mod Bounds
pub mod Sizes
pub mod Ranges
pub mod Members
