pub mod Member
pub mod Chains
