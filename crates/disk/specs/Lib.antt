pub mod Disks
pub mod Memories
pub mod Failures
