pub mod Kept
pub mod Failed
