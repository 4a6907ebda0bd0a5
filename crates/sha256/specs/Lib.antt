pub mod Words
pub mod Constants
pub mod Rounds
pub mod Message
pub mod Stream
