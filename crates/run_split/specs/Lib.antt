pub mod Growing
pub mod Absorbing
pub mod Split
pub mod Absorb
pub mod SplitUpwards
pub mod SplittingUpwards
