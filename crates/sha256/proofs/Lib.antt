pub mod Streams
pub mod Paddings
pub mod Updates
pub mod Bits
pub mod Turns
