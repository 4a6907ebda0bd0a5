pub mod Bytes
pub mod Number
pub mod Quotes
pub mod Reads
pub mod Words
pub mod Written
