pub mod Turning
pub mod Sealing
pub mod Opened
