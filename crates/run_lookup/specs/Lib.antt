pub mod Value
pub mod Get
pub mod Finding
pub mod Delete
pub mod Deletion
