pub mod Seen
pub mod Pieces
pub mod Fill
