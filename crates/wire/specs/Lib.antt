pub mod Kinds
pub mod Inside
pub mod Faults
pub mod Writes
pub mod Codes
pub mod Back
