pub mod Lists
pub mod Moments
pub mod Turns
pub mod Splits
pub mod SplitsUpwards
pub mod Puts
