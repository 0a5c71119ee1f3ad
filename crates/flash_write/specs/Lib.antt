pub mod Group
pub mod NodePage
pub mod Edit
