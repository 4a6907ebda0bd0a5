pub mod Parts
pub mod Same
