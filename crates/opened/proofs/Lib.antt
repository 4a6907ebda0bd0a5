pub mod First
pub mod Slots
pub mod Kept
pub mod Named
