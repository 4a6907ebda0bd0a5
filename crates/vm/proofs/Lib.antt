pub mod Runs
pub mod Wraps
pub mod Theorems
pub mod Flags
