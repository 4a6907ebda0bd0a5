pub mod Kepts
pub mod View
pub mod Stand
pub mod Contract
pub mod Checks
pub mod IsClient
