pub mod Actions
pub mod Grants
