pub mod Tables
pub mod Puts
