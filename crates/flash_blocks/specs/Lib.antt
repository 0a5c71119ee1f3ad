pub mod Pages
pub mod Blank
