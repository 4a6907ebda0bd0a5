pub mod Same
pub mod Naming
pub mod Coding
