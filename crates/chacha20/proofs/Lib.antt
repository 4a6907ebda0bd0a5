pub mod Vectors
pub mod Bytes
pub mod Streams
pub mod Texts
