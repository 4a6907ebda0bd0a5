pub mod Streams
pub mod Readers
pub mod Receivers
pub mod Promises
