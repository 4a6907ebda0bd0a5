pub mod Step
pub mod Turn
pub mod Ends
pub mod Commands
pub mod Adding
pub mod Laws
