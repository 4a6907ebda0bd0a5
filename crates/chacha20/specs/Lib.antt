pub mod Words
pub mod Block
pub mod Cipher
pub mod Lanes
