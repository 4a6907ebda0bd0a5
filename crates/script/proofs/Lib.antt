pub mod Back
pub mod Lines
pub mod Sound
