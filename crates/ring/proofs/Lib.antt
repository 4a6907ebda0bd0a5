pub mod Turned
pub mod Parts
pub mod Held
