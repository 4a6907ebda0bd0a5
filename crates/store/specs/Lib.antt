pub mod Leases
pub mod Stores
