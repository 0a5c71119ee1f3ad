pub mod Live
pub mod Bits
pub mod Choose
