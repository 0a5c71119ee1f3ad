pub mod Lists
pub mod Commands
pub mod Descents
pub mod Lookups
