pub mod Left
pub mod Closed
pub mod Work
pub mod Lent
pub mod AnyCall
