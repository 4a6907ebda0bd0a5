pub mod Due
pub mod Quiet
