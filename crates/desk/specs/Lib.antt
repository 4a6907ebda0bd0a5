pub mod View
pub mod Events
pub mod Quiet
pub mod Sight
