pub mod Begin
pub mod Mounted
