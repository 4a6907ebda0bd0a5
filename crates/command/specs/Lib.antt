pub mod Arguments
pub mod Keywords
pub mod Meaning
pub mod Orders
pub mod Programs
pub mod Said
pub mod Written
