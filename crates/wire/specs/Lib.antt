pub mod Read
pub mod Sum
pub mod Columns
pub mod Tag
pub mod TagLaws
pub mod Field
pub mod FieldLaws
