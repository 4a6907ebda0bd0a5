pub mod Sets
pub use Rattle.bits.specs.Bits
