pub mod Seal
pub mod ReadBack
pub mod Exact
pub mod Sizes
