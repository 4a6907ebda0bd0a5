pub mod Pads
pub mod Macs
