pub mod Stands
pub mod Calls
pub mod Whole
