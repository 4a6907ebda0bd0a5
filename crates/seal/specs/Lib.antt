pub mod Frames
pub mod Marks
pub mod Ways
pub mod Laws
pub mod Causes
pub mod Sends
